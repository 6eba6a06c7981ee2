use Rattle.std.proofs.Common.{Option, None, refl, sym, ap, ◌∙◌, subst}
use Rattle.semver_ranges.specs.CargoGrammar.{read_in}
use Rattle.semver_ranges.specs.RangeTree.{Simple}
use Rattle.semver_ranges.specs.Partials.{stated}
use Rattle.semver_ranges.specs.Steps.CursorViews.{IsSimpleOf}
use Rattle.semver_ranges.specs.DialectTable.{grammar_of, limit}
use Rattle.tool_ranges.specs.FittingTerms.{first_above}
use Rattle.semver_ranges.specs.Sides.{raised_index}
use Rattle.semver_ranges.proofs.FitCells.{read_fits, read_raised}
use Rattle.tool_ranges.proofs.TooLargeNumbers.{all_within, raised_large, same_partial}
use Rattle.tool_ranges.proofs.large_numbers.too_large.Goals as goal

pub returns-in-None-clause-value : goal.returns-in-None-clause-value
returns-in-None-clause-value c = λ s operator are.
    let d = c.args.dialect in
    let r : Simple = read_in (grammar_of d) s in
    let simple = c.of-simple.result in
    let is : IsSimpleOf r simple = subst (λ s. IsSimpleOf s simple) (ap (λ g. read_in g s) c.grammar.ensures.grammar)
    (c.of-simple.ensures s operator are) in
    let none : Path (Option _) None (first_above (limit d) (stated r.partial)) =
    sym c.in-None.is ∙ c.first_above.ensures.value s.partial are ∙ ap (λ most. first_above most (stated s.partial)) c.limit.ensures
    ∙ ap (λ t. first_above (limit d) (stated t)) (sym (same_partial (grammar_of d) s)) in
    raised_large d r none (sym (c.fits.ensures ∙ read_fits r simple is d) ∙ c.if-fits.false) c.raised_index.result
    (c.raised_index.ensures.value ∙ (λ i. raised_index (c.sides-lower.ensures.lower i, c.sides-lower.ensures.upper i))
    ∙ read_raised r simple is d (all_within d r none))

pub returns-then-fits-clause-value : goal.returns-then-fits-clause-value
returns-then-fits-clause-value c = λ s operator are.
    let d = c.args.dialect in
    let r : Simple = read_in (grammar_of d) s in
    let simple = c.of-simple.result in
    let is : IsSimpleOf r simple = subst (λ s. IsSimpleOf s simple) (ap (λ g. read_in g s) c.grammar.ensures.grammar)
    (c.of-simple.ensures s operator are) in
    rw (sym (c.fits.ensures ∙ read_fits r simple is d) ∙ c.if-fits.true) refl

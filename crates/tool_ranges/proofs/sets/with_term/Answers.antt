use Rattle.std.proofs.Common.{◌&&◌, ◌∙◌, ap}
use Rattle.std.proofs.lemmas.Bool.{and_parts}
use Rattle.semver_texts.specs.Digits.{digits_in}
use Rattle.version_sets.specs.Steps.Cuts.{is_in_interval}
use Rattle.version_sets.specs.Steps.Ends.{in_each}
use Rattle.semver_ranges.specs.DialectTable.{grammar_of}
use Rattle.semver_ranges.proofs.FitCells.{read_fits}
use Rattle.tool_ranges.proofs.MatchedTerms.{each_kind}
use Rattle.tool_ranges.proofs.sets.with_term.Goals as goal

pub returns-clause-meaning : goal.returns-clause-meaning
returns-clause-meaning c = λ s v is fit small.
    let d = c.args.dialect in
    let simple = c.args.simple.now in
    let digits = c.digits-digits.ensures ∙ ap digits_in c.grammar.ensures.grammar in
    c.and.ensures.meaning v small
    ∙ ap (λ b. in_each c.args.here v && b) (each_kind d s simple is fit v c.args.all _ _
    (ap (λ digits. is_in_interval digits c.bounds.result v) digits ∙ c.bounds.ensures (digits_in (grammar_of d)) v)
    (ap (λ digits. is_in_interval digits c.interval_of-pre_releases.result v) digits
    ∙ c.interval_of-pre_releases.ensures (and_parts simple.partial.fits _ (read_fits s simple is d ∙ fit)).1 v))

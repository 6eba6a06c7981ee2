use Rattle.std.proofs.Common.{◌≡◌, Err, rules, subst}
use Rattle.semver_ranges.specs.declared.range_set.RangeError.TheVariants.{NotARange}
use Rattle.semver_ranges.specs.DialectTable.{mode_of}
use Rattle.semver_ranges.specs.Sides.{term_fits}
use Rattle.semver_ranges.specs.TermComparators.{printed_term}
use Rattle.semver_ranges.specs.Steps.Answers.{IsAnswerBy}
use Rattle.tool_ranges.specs.Steps.TextEvents.{text_events}
use Rattle.tool_ranges.proofs.PrintedSets.{made_prints, made_refuses}
use Rattle.tool_ranges.proofs.ReadTrees.{refused_as}
use Rattle.tool_ranges.proofs.rewriting.rewrite_with.Goals as goal

pub rewrite-requires : goal.rewrite-requires
rewrite-requires c = (c.args.range.now, c.in_ok-begin.ensures.begun.0)

pub returns-in_err-begin-clause-refusals : goal.returns-in_err-begin-clause-refusals
returns-in_err-begin-clause-refusals c =
    let error = c.in_err-begin.field-0.0 in
    let is : c.from_residual.result ≡ Err error = search rules in
    rw (is, c.in_err-begin.ensures.left.0) (refused_as c.args.dialect c.args.range.now NotARange c.in_err-begin.ensures.left.1)

pub returns-clause-refusals : goal.returns-clause-refusals
returns-clause-refusals c =
    let d = c.args.dialect in
    let made : IsAnswerBy (text_events d c.args.range.now) (term_fits d) (printed_term c.args.style d) (mode_of d) c.rewrite.result
    = subst (λ o. IsAnswerBy o (term_fits d) (printed_term c.args.style d) (mode_of d) c.rewrite.result) c.in_ok-begin.ensures.begun.1
    (c.rewrite.ensures c.args.range.now c.in_ok-begin.ensures.begun.0) in
    made_refuses c.args.style d c.args.range.now c.rewrite.result made

pub returns-clause-printed : goal.returns-clause-printed
returns-clause-printed c =
    let d = c.args.dialect in
    let made : IsAnswerBy (text_events d c.args.range.now) (term_fits d) (printed_term c.args.style d) (mode_of d) c.rewrite.result
    = subst (λ o. IsAnswerBy o (term_fits d) (printed_term c.args.style d) (mode_of d) c.rewrite.result) c.in_ok-begin.ensures.begun.1
    (c.rewrite.ensures c.args.range.now c.in_ok-begin.ensures.begun.0) in
    made_prints c.args.style d c.args.range.now c.rewrite.result made

use Rattle.std.proofs.Common.{sym, ◌∙◌}
use Rattle.semver_ranges.proofs.Fronts.{back_more}
use Rattle.semver_ranges.proofs.grammar.after_blanks.Goals as goal

pub loop-at-preserved : goal.loop-at-preserved
loop-at-preserved c =
    c.loop-at.invariant ∙ back_more _ c.args.text.now c.loop-at.at c.loop-at-test.true
    (sym c.is_blank.ensures ∙ c.if-not-is_blank.false)

use Rattle.std.proofs.Common.{◌+◌, sym, ◌∙◌}
use Rattle.std.specs.Char.{is_ascii_digit}
use Rattle.semver_ranges.proofs.ComponentSteps.{value_more}
use Rattle.semver_ranges.proofs.Fronts.{back_more, taken_more}
use Rattle.semver_ranges.proofs.grammar.read_digits.Goals as goal

pub loop-at-preserved : goal.loop-at-preserved
loop-at-preserved c =
    let t = c.args.text.now in
    let d = sym c.is_ascii_digit.ensures.value ∙ c.if-not-is_ascii_digit.false in (
      value_more (48 + c.args.first) t c.loop-at.at c.with_digit-value.result c.loop-at-test.true d
          (c.with_digit-value.ensures _ c.loop-at.invariant.0),
      taken_more is_ascii_digit t c.loop-at.at c.loop-at-test.true d c.loop-at.invariant.1,
      c.loop-at.invariant.2 ∙ back_more is_ascii_digit t c.loop-at.at c.loop-at-test.true d,
    )

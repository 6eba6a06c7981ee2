use Rattle.std.proofs.Common.{◌≤◌, length, refl, arith, ap}
use Rattle.semver_ranges.specs.RangeTree.{is_blank}
use Rattle.semver_ranges.proofs.ReadingSteps.{back_shorter}
use Rattle.semver_ranges.proofs.grammar.read_right_side.Goals as goal

pub returns-then-ends_range : goal.returns-then-ends_range
returns-then-ends_range c =
    let d = c.args.grammar in
    let blank = c.in_ok-text.ensures in
    let found = c.in_ok-right.ensures in
    let short : length c.after_blanks-text.result.now ≤ length c.in_ok-text.text.now =
    rw c.after_blanks-text.ensures (back_shorter (is_blank d) c.in_ok-text.text.now) in
    record {
      x = _;
      side = rw (
        blank.2,
        blank.1,
        ← c.after_blanks-text.ensures,
        found.1,
        ← c.after_blanks-rest.ensures,
        ← c.ends_range.ensures,
        c.if-ends_range.true,
      ) refl;
      word = rw (blank.2, ← c.after_blanks-text.ensures, found.1) refl;
      is = found.2;
      within = omega (arith, short, ap length blank.2);
    }

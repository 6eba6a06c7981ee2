use Rattle.std.proofs.Common.{◌≤◌, Some, false, length, arith, refl, ap, ◌∙◌}
use Rattle.semver_ranges.specs.RangeTree.{is_blank}
use Rattle.semver_texts.specs.Texts.{Text}
use Rattle.semver_ranges.specs.TextItems.{two_bars}
use Rattle.semver_ranges.specs.Steps.RangeEvents.{next_range, put}
use Rattle.semver_ranges.proofs.ReadingSteps.{back_shorter, shorter_bars}
use Rattle.semver_ranges.proofs.EventSteps.{begin_left, bars_left}
use Rattle.semver_ranges.proofs.ItemSteps.{left_next}
use Rattle.semver_ranges.proofs.cursor.Cursor.read_bars.Goals as goal

pub returns : goal.returns
returns c =
    let d = c.args.grammar in
    let t : Text = c.args.self.now.rest.now in
    let u : Text = c.in_ok-after_bars.field-0.now in
    let rest : Text = c.after_blanks-self.result.now in
    let short : length rest ≤ length u = rw c.after_blanks-self.ensures (back_shorter (is_blank d) u) in
    let less = shorter_bars t u c.in_ok-after_bars.ensures in
    record {
      x = two_bars;
      is = tt;
      whole = left_next d false t (Some (two_bars, rest))
          (rw (c.requires.ranges, c.requires.ends, c.in_ok-after_bars.ensures, c.after_blanks-self.ensures) refl);
      left = rw c.requires.ranges (bars_left d t (Some u) c.requires.some c.requires.ends c.in_ok-after_bars.ensures
          ∙ ap (put next_range) (begin_left d u rest c.after_blanks-self.ensures));
      fewer = omega (arith, short, less);
      shorter = omega (arith, short, less);
    }

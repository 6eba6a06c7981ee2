use Rattle.std.proofs.Common.{◌≡◌, Some, true, refl, sym, ◌∙◌, arith}
use Rattle.semver_texts.specs.Texts.{Text}
use Rattle.semver_ranges.specs.Steps.Reading.{ends_range}
use Rattle.semver_ranges.specs.TextItems.{empty_range}
use Rattle.semver_ranges.proofs.EventSteps.{empty_left}
use Rattle.semver_ranges.proofs.ItemSteps.{left_next}
use Rattle.semver_ranges.proofs.cursor.Cursor.read_in_ranges.Goals as goal

pub returns : goal.returns
returns c =
    let t : Text = c.args.self.now.rest.now in
    let ends : ends_range t ≡ true = sym c.ends_range.ensures ∙ c.if-not-ends_range.false in
    let begins : c.args.begins_range ≡ true = c.if-not-begins_range.false in
    rw (begins, c.requires.begun) (record {
      x = empty_range;
      is = tt;
      whole = left_next c.args.grammar true t (Some (empty_range, t)) (rw (c.requires.ranges, ends) refl);
      left = rw c.requires.ranges (empty_left c.args.grammar t ends);
      fewer = omega arith;
      shorter = omega arith;
    })

use Rattle.std.proofs.Common.{◌≡◌, ◌<◌, ◌&&◌, length, false, refl, arith, Some, None}
use Rattle.std.proofs.Math.Bool.{and-false}
use Rattle.semver_texts.specs.Texts.{Text, begins_with}
use Rattle.semver_ranges.specs.RangeTree.{Simple}
use Rattle.semver_ranges.specs.TextItems.{FoundTerm, one_term}
use Rattle.semver_ranges.proofs.ReadingSteps.{shorter_simple}
use Rattle.semver_ranges.proofs.EventSteps.{simple_left}
use Rattle.semver_ranges.proofs.ItemSteps.{left_next}
use Rattle.semver_ranges.proofs.cursor.Cursor.read_in_range.Goals as goal
use Rattle.semver_ranges.proofs.cursor.Cursor.read_in_range.Goals.{in_default-via-in-Some+else-begins_range, in_default-via-in_default}

pub returns-in_default : goal.returns-in_default
returns-in_default c =
    let d = c.args.grammar in
    let here = c.in_ok-term.ensures in
    let t : Text = c.args.self.now.rest.now in
    let u : Text = c.in_ok-term.rest.now in
    let s : Simple = record { operator = c.in_ok-term.term.operator; partial = here.version.partial } in
    let less : length u < length t = shorter_simple d t u s here.simple in
    let one : (c.args.begins_range && begins_with 45 u) ≡ false = elim c.in_default.branch [
      | in_default-via-in-Some+else-begins_range w ↦ rw w.if-begins_range.false refl
      | in_default-via-in_default w ↦ rw w.in_default.ensures (and-false _)
    ] in
    let x : FoundTerm = record { from = t; operator = s.operator; version = here.version; upper = None } in
    rw c.requires.begun (record {
      x = one_term x;
      is = (
        record { from = here.from; operator = refl; version = here.is; within = here.within; upper = rw here.upper tt },
        omega arith,
      );
      whole = left_next d c.args.begins_range t (Some (one_term x, u)) (rw (c.requires.ranges, c.requires.goes_on, here.simple, here.word, one) refl);
      left = rw c.requires.ranges (simple_left d c.args.begins_range t u s c.requires.goes_on here.simple (λ begins. rw begins at one));
      fewer = omega (arith, less);
      shorter = omega (arith, less);
    })

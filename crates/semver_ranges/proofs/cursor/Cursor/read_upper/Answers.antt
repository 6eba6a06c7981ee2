use Rattle.std.proofs.Common.{◌≡◌, ◌∷◌, ◌≤◌, ◌<◌, length, true, refl, sym, ap, ◌∙◌, arith, Some}
use Rattle.semver_texts.specs.Texts.{Text}
use Rattle.semver_ranges.specs.declared.operator.Operator.TheVariants.{Bare, Hyphen}
use Rattle.semver_ranges.specs.RangeTree.{Simple, RangeTree, hyphen}
use Rattle.semver_ranges.specs.Steps.Reading.{with_right}
use Rattle.semver_ranges.specs.TextItems.{FoundTerm, one_term}
use Rattle.semver_ranges.specs.Steps.RangeEvents.{yielded, put_simples}
use Rattle.semver_ranges.proofs.ReadingSteps.{shorter_simple, shorter_right, right_ends}
use Rattle.semver_ranges.proofs.EventSteps.{end_left, hyphen_left}
use Rattle.semver_ranges.proofs.ItemSteps.{left_next}
use Rattle.semver_ranges.proofs.cursor.Cursor.read_upper.Goals as goal

pub returns : goal.returns
returns c =
    let d = c.args.grammar in
    let here = c.requires.left in
    let right = c.in_ok-upper.ensures in
    let t : Text = c.args.self.now.rest.now in
    let w : Text = c.args.after.now in
    let v : Text = c.in_ok-upper.rest.now in
    let operator : c.args.left.operator ≡ Bare = c.in-Bare.is in
    let s : Simple = record { operator = c.args.left.operator; partial = here.version.partial } in
    let x : RangeTree = hyphen here.version.partial right.x.partial in
    let both = ap (with_right s) right.side ∙ rw operator refl in
    let less : length (45 ∷ w) < length t = shorter_simple d t (45 ∷ w) s here.simple in
    let short : length v ≤ length (45 ∷ w) = shorter_right d s (45 ∷ w) v x both in
    let y : FoundTerm = record { from = t; operator = Hyphen; version = here.version; upper = Some right.x } in
    rw c.requires.begun (record {
      x = one_term y;
      is = (
        record {
          from = here.from;
          operator = refl;
          version = here.is;
          within = here.within;
          upper = (right.is, omega (arith, less, right.within));
        },
        omega arith,
      );
      whole = left_next d true t (Some (one_term y, v)) (rw (c.requires.ranges, c.requires.goes_on, here.simple, here.word, both, right.word) refl);
      left = rw c.requires.ranges (hyphen_left d t (45 ∷ w) w v s x c.requires.goes_on here.simple refl both
          ∙ ap (put_simples (yielded x)) (sym (end_left d v (right_ends d s (45 ∷ w) v x both))));
      fewer = omega (arith, less, short);
      shorter = omega (arith, less, short);
    })

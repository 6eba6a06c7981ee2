use Rattle.semver_ranges.proofs.ComparatorSteps.{after_found}
use Rattle.semver_ranges.proofs.cargo.next_comparator.Goals as goal
use Rattle.semver_ranges.proofs.cargo.next_comparator.Goals.{then-is_first, else-is_first+in_ok-text}

pub returns : goal.returns
returns c = elim c.if-is_first.branch [
  | then-is_first w ↦ rw w.if-is_first.true (rw (w.if-is_first.true, w.text-is) at c.read_comparator.ensures)
  | else-is_first+in_ok-text w ↦ rw w.if-is_first.false
      (after_found c.args.text.now w.in_ok-text.text.now c.read_comparator.result w.in_ok-text.ensures
      (rw (w.if-is_first.false, w.text-is) at c.read_comparator.ensures))
]

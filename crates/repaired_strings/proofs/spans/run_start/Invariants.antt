use Rattle.std.proofs.Common.{◌≡◌, ◌≤◌, ◌<◌, ℕ, true, slice_index}
use Rattle.repaired_strings.specs.Spans.{is_of_same_kind}
use Rattle.repaired_strings.proofs.spans.run_start.Given as goal

-- the bytes so far are of the same kind
abbrev pub invariant-loop-start : goal.invariant-loop-start
invariant-loop-start l = (l.start ≤ l.fn.offset)
    × ((i : ℕ) → l.start ≤ i → i < l.fn.offset → is_of_same_kind l.byte (slice_index l.bytes i) ≡ true)

abbrev pub decreases-loop-start : goal.decreases-loop-start
decreases-loop-start l = l.start

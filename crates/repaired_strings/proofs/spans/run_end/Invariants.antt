use Rattle.std.proofs.Common.{◌≡◌, ◌≤◌, ◌<◌, ℕ, true, slice_index}
use Rattle.repaired_strings.specs.Spans.{is_of_same_kind}
use Rattle.repaired_strings.proofs.spans.run_end.Given as goal

-- the bytes so far are of the same kind
abbrev pub invariant-loop-at : goal.invariant-loop-at
invariant-loop-at l = (i : ℕ) → l.offset ≤ i → i < l.at → is_of_same_kind l.byte (slice_index l.bytes i) ≡ true

-- No byte from the offset `size` on is the one that ends lines.
use Rattle.std.proofs.Common.{◌≢◌, ◌≤◌, All, drop, length}
use Rattle.release_filter.proofs.line_texts.ended_size.Given as goal

abbrev pub invariant-loop-size : goal.invariant-loop-size
invariant-loop-size l = (l.size ≤ length l.bytes) × All (λ x. x ≢ l.end) (drop l.size l.bytes)

abbrev pub decreases-loop-size : goal.decreases-loop-size
decreases-loop-size l = l.size

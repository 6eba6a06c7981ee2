-- No byte before the offset `at` is the one that ends lines.
use Rattle.std.proofs.Common.{◌≢◌, All, take}
use Rattle.release_filter.proofs.line_texts.through_first.Given as goal

abbrev pub invariant-loop-at : goal.invariant-loop-at
invariant-loop-at l = All (λ x. x ≢ l.end) (take l.at l.bytes)

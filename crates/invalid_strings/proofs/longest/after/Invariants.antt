use Rattle.std.proofs.Common.{ℕ, ◌<◌}
use Rattle.std.specs.Str.{IsCharBoundary}
use Rattle.invalid_strings.proofs.longest.after.Given as goal

-- no offset that was tried so far is between two characters
abbrev pub invariant-loop-at : goal.invariant-loop-at
invariant-loop-at l = (k : ℕ) → l.offset < k → k < l.at → ¬ (IsCharBoundary l.text k)

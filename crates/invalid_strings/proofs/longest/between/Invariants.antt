use Rattle.std.proofs.Common.{ℕ, ◌<◌, ◌≤◌, ◌⊎◌}
use Rattle.std.specs.Str.{IsCharBoundary}
use Rattle.invalid_strings.proofs.longest.between.Given as goal

-- no offset that was tried so far is between two characters
abbrev pub invariant-loop-at : goal.invariant-loop-at
invariant-loop-at l = (k : ℕ) → l.middle ≤ k → k < l.at → l.good < k → ¬ (IsCharBoundary l.text k)

abbrev pub invariant-loop-at-2 : goal.invariant-loop-at-2
invariant-loop-at-2 l = (k : ℕ) → l.good < k → (k < l.at) ⊎ ((l.middle ≤ k) × (k < l.bad)) → ¬ (IsCharBoundary l.text k)

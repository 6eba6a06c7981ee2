-- Numbers agree with the stated ones as `^` requires if and only if they agree up to the position
-- that `^` raises.
use Rattle.std.proofs.Common.{arith}
use Rattle.std.proofs.Common.{◌≡◌, ℕ, nat_eq, List, [], ◌∷◌, take, refl}
use Rattle.std.specs.List.{starts_with}
use Rattle.semver_ranges.specs.Partials.{leading_place}
use Rattle.semver_ranges.specs.CrateMeaning.{agrees_past_zeros}

pub same_agreement : (s numbers : List ℕ) → agrees_past_zeros s numbers ≡ starts_with nat_eq numbers (take (leading_place s) s)
same_agreement [] numbers = refl
same_agreement (n ∷ []) [] = refl
same_agreement (n ∷ []) (m ∷ others) = grind arith
same_agreement (n ∷ next ∷ rest) [] = grind arith
same_agreement (n ∷ next ∷ rest) (m ∷ others) = grind (arith, same_agreement (next ∷ rest) others)

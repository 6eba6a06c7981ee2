-- A number that is raised for a bound is one of the stated numbers.
use Rattle.std.proofs.Common.{◌≡◌, ℕ, ◌==◌, List, [], ◌∷◌, refl}
use Rattle.semver_texts.proofs.Lists.{by_test}
use Rattle.semver_texts.specs.Versions.{numbers, IdentifierValue}
use Rattle.semver_ranges.specs.Partials.{filled, leading_place}
use Rattle.semver_ranges.specs.RewritingTable.{up}

-- a position among one, two or three stated numbers
pub data Spot : List ℕ → ℕ → Type 0 where
  first_of_one : (x : ℕ) → Spot (x ∷ []) 1
  first_of_two : (x y : ℕ) → Spot (x ∷ y ∷ []) 1
  second_of_two : (x y : ℕ) → Spot (x ∷ y ∷ []) 2
  first_of_three : (x y w : ℕ) → Spot (x ∷ y ∷ w ∷ []) 1
  second_of_three : (x y w : ℕ) → Spot (x ∷ y ∷ w ∷ []) 2
  third_of_three : (x y w : ℕ) → Spot (x ∷ y ∷ w ∷ []) 3

pub leading_of_two : (x y : ℕ) → Spot (x ∷ y ∷ []) (leading_place (x ∷ y ∷ []))
leading_of_two x y = by_test (x == 0) (λ z. rw z (Spot.second_of_two x y)) (λ n. rw n (Spot.first_of_two x y))

pub leading_of_three : (x y w : ℕ) → Spot (x ∷ y ∷ w ∷ []) (leading_place (x ∷ y ∷ w ∷ []))
leading_of_three x y w = by_test (x == 0)
    (λ z. by_test (y == 0) (λ q. rw (z, q) (Spot.third_of_three x y w)) (λ n. rw (z, n) (Spot.second_of_three x y w)))
    (λ n. rw n (Spot.first_of_three x y w))

-- raising a number of the zero-filled version is raising the stated number
pub raised_same : {s : List ℕ} {k : ℕ} → Spot s k → (p : List IdentifierValue) → up k (numbers (filled s p)) ≡ up k s
raised_same (Spot.first_of_one x) p = refl
raised_same (Spot.first_of_two x y) p = refl
raised_same (Spot.second_of_two x y) p = refl
raised_same (Spot.first_of_three x y w) p = refl
raised_same (Spot.second_of_three x y w) p = refl
raised_same (Spot.third_of_three x y w) p = refl

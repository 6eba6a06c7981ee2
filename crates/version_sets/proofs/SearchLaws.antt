-- Whether an element is inside boundaries, as a binary search finds it, and as a search one by one
-- does.
use Rattle.std.proofs.Common.{◌&&◌, ◌≡◌, ℕ, zero, suc, ◌≤◌, ◌<◌, ◌%◌, Bool, true, false, not, nat_eq, List, [], ◌∷◌}
use Rattle.std.proofs.Common.{map, length, get_or, refl, sym, ap, ◌∙◌}
use Rattle.std.proofs.Common.{Ordering, Less, is_ge, is_le, is_lt, is_gt, arith}
use Rattle.std.proofs.lemmas.Bool.Decides.{nat_tests}
use Rattle.std.specs.Cmp.{IsTotalOrder, upto}
use Rattle.std.specs.List.Sorted.{IsPartitionedBy, IsPartitionPoint}
use Rattle.std.specs.Ordering.{ordering_reverse}
use Rattle.version_sets.specs.Boundaries.{is_inside, IsBelowFirst, IsIncreasing}
use Rattle.version_sets.specs.Steps.Sweeps.{differ}
use Rattle.version_sets.proofs.BoundaryLaws.{below-first, is_inside-below, is_inside-at}

le-gt : (r : Ordering) → is_le r ≡ true → is_gt r ≡ false
le-gt r e = grind arith

gt-le : (r : Ordering) → is_gt r ≡ false → is_le r ≡ true
gt-le r e = grind arith

ge_reverse : (r : Ordering) → is_le r ≡ true → is_ge (ordering_reverse r) ≡ true
ge_reverse r e = grind arith

less_reverse : (r : Ordering) → is_le r ≡ false → ordering_reverse r ≡ Less
less_reverse r e = grind arith

pub reversed_ge : (r : Ordering) → is_ge (ordering_reverse r) ≡ is_le r
reversed_ge r = grind arith

odd_next : (n : ℕ) → nat_eq (suc n % 2) 1 ≡ not (nat_eq (n % 2) 1)
odd_next n = grind (arith, nat_tests)

module _ {T X : Type 0} (cmp : T → T → Ordering) (o : IsTotalOrder cmp) (f : X → T) (v : T) where
  abbrev pub is_passed : X → Bool
  is_passed x = is_le (cmp (f x) v)

  first_passed : (x : X) (xs : List X) (d : X) → 0 < length xs
      → IsBelowFirst cmp (f x) (map f xs) → is_passed (get_or xs 0 d) ≡ true → is_passed x ≡ true
  first_passed x [] d l h p = absurd (omega arith)
  first_passed x (y ∷ xs) d l h p = gt-le _ (upto o (f x) (f y) v (ap is_gt h) (le-gt _ p))

  -- if a boundary is at or below v, so are those before it
  pub passed_before : (xs : List X) → IsIncreasing cmp (map f xs) → IsPartitionedBy is_passed xs
  passed_before [] s i j d k l p = absurd (omega arith)
  passed_before (x ∷ xs) s zero zero d k l p = p
  passed_before (x ∷ xs) s zero (suc j) d k l p =
      let l2 : j < length xs = omega arith in
      first_passed x xs d (omega arith) s.0 (passed_before xs s.1 zero j d (omega arith) l2 p)
  passed_before (x ∷ xs) s (suc i) zero d k l p = absurd (omega arith)
  passed_before (x ∷ xs) s (suc i) (suc j) d k l p = passed_before xs s.1 i j d (omega arith) (omega arith) p

  -- if n boundaries are at or below v, it is inside if and only if n is odd
  pub odd_passed : (xs : List X) (n : ℕ) → n ≤ length xs → IsPartitionPoint (λ x. is_passed x ≡ true) (λ x. is_passed x ≡ false) xs n
      → nat_eq (n % 2) 1 ≡ is_inside cmp (map f xs) v
  odd_passed [] zero l point = refl
  odd_passed [] (suc n) l point = absurd (omega arith)
  odd_passed (x ∷ xs) zero l point =
      sym (is_inside-below cmp v (map f (x ∷ xs)) (o.antisymm v (f x)
      ∙ less_reverse (cmp (f x) v) (point.1 0 x (omega arith) (omega arith))))
  odd_passed (x ∷ xs) (suc n) l point =
      odd_next n ∙ ap not (odd_passed xs n (omega arith) (
        λ k d p q. point.0 (suc k) d (omega arith) (omega arith),
        λ k d p q. point.1 (suc k) d (omega arith) (omega arith),
      ))
      ∙ sym (is_inside-at cmp v (f x) (map f xs) (ap is_ge (o.antisymm v (f x))
      ∙ ge_reverse (cmp (f x) v) (point.0 0 x (omega arith) (omega arith))))

-- ---- boundaries compared one by one

-- v is inside all boundaries if and only if `known` differs from whether it is inside those that
-- are left
pub record IsTurned {T : Type 0} (cmp : T → T → Ordering) (v : T) (all left : List T) (known : Bool) : Type 0 where
  pub increase : IsIncreasing cmp left
  pub turned : is_inside cmp all v ≡ differ known (is_inside cmp left v)

turns : (known s below : Bool) (r : Ordering) → below ≡ is_lt r → (r ≡ Less → s ≡ false)
    → differ known (is_ge r && not s) ≡ differ (differ known (not below)) s
turns known s below r told after = grind arith

module _ {T : Type 0} (cmp : T → T → Ordering) (o : IsTotalOrder cmp) (v : T) (all : List T) where
  -- the step over the next boundary: `known` is inverted unless v is below that boundary
  pub turn_next : (b : T) (left : List T) (known below : Bool) → below ≡ is_lt (cmp v b) → IsTurned cmp v all (b ∷ left) known
      → IsTurned cmp v all left (differ known (not below))
  turn_next b left known below told w =
      let after = λ (l : cmp v b ≡ Less). is_inside-below cmp v left (below-first cmp o v b left l w.increase.0) in
      record { increase = w.increase.1; turned = w.turned ∙ turns known _ below (cmp v b) told after }

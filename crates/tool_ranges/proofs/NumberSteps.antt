-- The numbers of a version compared with stated ones, whatever follows these.
use Rattle.std.proofs.Common.{◌≡◌, ℕ, zero, suc, ◌+◌, Bool, true, false, nat_eq, refl, inl, inr, arith}
use Rattle.std.proofs.lemmas.Bool.{cases_order, lt-ltb, le-ltb, eq-eqb, ne_eqb}
use Rattle.std.specs.Ordering.{nat_cmp, ordering_then, is_lt, is_ge, is_gt}
use Rattle.std.specs.declared.cmp.Ordering.{Ordering}
use Rattle.std.specs.declared.cmp.Ordering.TheVariants.{Less, Equal, Greater}
use Rattle.semver_ranges.proofs.Rows.{Step}
use Rattle.semver_texts.proofs.Lists.{by_test}

-- no number is below 0, with which numbers that aren't stated are filled in
pub not_less : (n : ℕ) (o : Ordering) → is_ge o ≡ true → is_ge (ordering_then (nat_cmp n 0) o) ≡ true
not_less zero o e = e
not_less (suc n) o e = rw (le-ltb (suc n) 0 (omega arith), ne_eqb (suc n) 0 (λ h. omega arith)) refl

-- comparisons with stated numbers: `o` is the order of what follows them
pub no_lower : (o : Ordering) → is_ge o ≡ true → is_lt o ≡ false
no_lower Less e = cc
no_lower Equal e = refl
no_lower Greater e = refl

pub is_less : {g : Ordering → Ordering} {e m : Bool} → Step g e m → (o : Ordering) → is_ge o ≡ true → is_lt (g o) ≡ is_lt (g Equal)
is_less Step.lower o h = refl
is_less Step.level o h = no_lower o h
is_less Step.higher o h = refl

-- a number is at or above a raised number if and only if it is above the number before it was
-- raised
pub is_above : (a x : ℕ) (o : Ordering) → is_ge o ≡ true
    → is_ge (ordering_then (nat_cmp a (x + 1)) o) ≡ is_gt (ordering_then (nat_cmp a x) Equal)
is_above a x o h = elim (cases_order a x) [
  | inl even ↦ rw (even, le-ltb x x (omega arith), eq-eqb x x refl, lt-ltb x (x + 1) (omega arith)) refl
  | inr apart ↦ elim apart [
    | inl low ↦ rw (lt-ltb a x low, lt-ltb a (x + 1) (omega arith)) refl
    | inr high ↦ rw (le-ltb a x (omega arith), ne_eqb a x (λ e. omega arith), le-ltb a (x + 1) (omega arith))
        (by_test (nat_eq a (x + 1)) (λ y. rw y h) (λ n. rw n refl))
  ]
]

pub is_above_after : {g : Ordering → Ordering} {e m : Bool} → Step g e m → (o o' : Ordering) → is_ge o ≡ is_gt o'
    → is_ge (g o) ≡ is_gt (g o')
is_above_after Step.lower o o' h = refl
is_above_after Step.level o o' h = h
is_above_after Step.higher o o' h = refl

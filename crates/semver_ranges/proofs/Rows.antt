-- A version satisfies the comparators of a cell if and only if it satisfies the term, except that a
-- pre-release of the raised bound also satisfies them. With an exact bound there is no exception.
use Rattle.std.proofs.lemmas.Bool.Decides.{nat_tests}
use Rattle.std.proofs.Common.{◌≡◌, ℕ, zero, suc, Bool, true, false, not, ◌&&◌, ◌||◌, ◌==◌, nat_eq, if◌then◌else◌, List, [], ◌∷◌}
use Rattle.std.proofs.Common.{refl, ◌∙◌, inl, inr, arith, Option, Some, None}
use Rattle.std.proofs.Math.Bool.{and_comm, and-false, or-false}
use Rattle.std.proofs.lemmas.Bool.{cases_order, lt-ltb, le-ltb, eq-eqb, ne_eqb}
use Rattle.std.specs.List.{list_all}
use Rattle.std.specs.Ordering.{nat_cmp, ordering_then, is_lt, is_ge}
use Rattle.std.specs.Cmp.Lexicographic.{pointwise}
use Rattle.std.specs.declared.cmp.Ordering.{Ordering}
use Rattle.std.specs.declared.cmp.Ordering.TheVariants.{Less, Equal, Greater}
use Rattle.semver_ranges.specs.declared.range.Compat.{Compat}
use Rattle.semver_ranges.specs.declared.range.Compat.TheVariants.{Cargo, Npm}
use Rattle.semver_ranges.specs.declared.operator.Operator.{Operator}
use Rattle.semver_ranges.specs.declared.operator.Operator.TheVariants.{Bare, Caret, Hyphen}
use Rattle.semver_texts.specs.Texts.{is_empty}
use Rattle.semver_texts.specs.Precedence.{precedence, pre_cmp}
use Rattle.semver_texts.specs.Versions.{numbers, IdentifierValue, numeric, alphanumeric, PlainVersion}
use Rattle.semver_ranges.specs.Partials.{filled}
use Rattle.semver_ranges.specs.CrateMeaning.{meets_stated, agrees}
use Rattle.semver_ranges.specs.RewritingTable.{cell, up, up_with}
use Rattle.semver_ranges.specs.RewritingTable.{written_cell, cell_comparators, cell_raised}
use Rattle.semver_ranges.specs.ExactBounds.{lowest_pre_release}
use Rattle.semver_ranges.specs.SatisfiedComparators.{meets_comparator, has_pre_release, is_pre_release_of}
use Rattle.semver_ranges.proofs.CaretPlaces.{same_agreement}

-- the order of two versions, from the orders of their three numbers and of their pre-releases
abbrev pub compared : Ordering → Ordering → Ordering → Ordering → Ordering
compared o o' o'' o4 = ordering_then o (ordering_then o' (ordering_then o'' o4))

-- how numbers compare with other numbers: below, equal or above. The first index gives the order of
-- lists that begin with them, from the order of the rests. The others say whether they are equal,
-- tested from either side
pub data Step : (Ordering → Ordering) → Bool → Bool → Type 0 where
  lower : Step (λ o. Less) false false
  level : Step (λ o. o) true true
  higher : Step (λ o. Greater) false false

pub step : (a x : ℕ) → Step (λ o. ordering_then (nat_cmp a x) o) (nat_eq x a) (nat_eq a x)
step a x = elim (cases_order a x) [
  | inl same ↦ rw (same, le-ltb x x (omega arith), eq-eqb x x refl) level
  | inr apart ↦ elim apart [
    | inl low ↦ rw (lt-ltb a x low, ne_eqb x a (λ e. omega arith), ne_eqb a x (λ e. omega arith)) lower
    | inr above ↦ rw (le-ltb a x (omega arith), ne_eqb x a (λ e. omega arith), ne_eqb a x (λ e. omega arith)) higher
  ]
]

pub and_step : {g h : Ordering → Ordering} {e m e' m' : Bool} → Step g e m → Step h e' m' → Step (λ o. g (h o)) (e && e') (m && m')
and_step lower b = lower
and_step level b = b
and_step higher b = higher

-- how a pre-release compares with that of a bound: equal, below or above. The indices are the
-- order, and whether it is below
pub data Tail : Ordering → Bool → Type 0 where
  same : Tail Equal false
  pre : Tail Less true
  past : Tail Greater false

-- if the bound has no pre-release, every pre-release is below
tail : (q : List IdentifierValue) → Tail (pre_cmp q []) (not (is_empty q))
tail [] = same
tail (x ∷ xs) = pre

-- if the bound has the lowest pre-release, none is below
pub floor : (q : List IdentifierValue) → Tail (pre_cmp q lowest_pre_release) false
floor [] = past
floor (numeric zero ∷ []) = same
floor (numeric zero ∷ x ∷ xs) = past
floor (numeric (suc n) ∷ xs) = rw (le-ltb (suc n) 0 (omega arith), ne_eqb (suc n) 0 (λ e. omega arith)) past
floor (alphanumeric t ∷ xs) = past

pub lower_tail : {o : Ordering} {i : Bool} → Tail o i → is_lt o ≡ i
lower_tail same = refl
lower_tail pre = refl
lower_tail past = refl

-- a list of at most three numbers
pub data Shape : List ℕ → Type 0 where
  none : Shape []
  one : (x : ℕ) → Shape (x ∷ [])
  two : (x y : ℕ) → Shape (x ∷ y ∷ [])
  three : (x y w : ℕ) → Shape (x ∷ y ∷ w ∷ [])

-- whether a version has the numbers of a bound, and a pre-release below that of the bound; i says
-- whether the pre-release is below
abbrev excepted : Bool → PlainVersion → Option PlainVersion → Bool
excepted i v None = false
excepted i v (Some bound) = pointwise nat_eq (numbers v) (numbers bound) && i

-- for a bound without a pre-release, the pre-releases of the bound are excepted; for an exact
-- bound, no version is
excepted_plainly : (v : PlainVersion) (bound : Option PlainVersion) → excepted (has_pre_release v) v bound ≡ is_pre_release_of v bound
excepted_plainly v None = refl
excepted_plainly v (Some bound) = and_comm _ (has_pre_release v)

excepted_never : (v : PlainVersion) (bound : Option PlainVersion) → excepted false v bound ≡ false
excepted_never v None = refl
excepted_never v (Some bound) = and-false _

-- a version satisfies the comparators of a cell if and only if it satisfies the term or is excepted
abbrev RowAgrees : List IdentifierValue → Bool → Compat → Operator → List ℕ → List IdentifierValue → PlainVersion → Type 0
RowAgrees f i mode operator s p v = list_all (meets_comparator v) (written_cell f (cell mode operator s) s (filled s p))
    ≡ (meets_stated mode operator s (filled s p) v || excepted i v (cell_raised (cell mode operator s) s))

-- f is the pre-release of a raised bound, p is that of the partial version, and i says whether the
-- pre-release of v is below f
module _ (v : PlainVersion) (f p : List IdentifierValue) {i : Bool} (t : is_lt (pre_cmp v.pre f) ≡ i) where
  -- a version satisfies `>=z <up(k)` if and only if it isn't below z and agrees on k numbers, or it
  -- is excepted
  abbrev Within : ℕ → List ℕ → Type 0
  Within k s = let z = filled s p in
      (is_ge (precedence v z) && (is_lt (precedence v (up_with f k s)) && true))
      ≡ ((is_ge (precedence v z) && agrees k s v) || excepted i v (Some (up k s)))

  within_one : (x y w : ℕ) → Within 1 (x ∷ y ∷ w ∷ [])
  within_one x y w = grind (arith, nat_tests)

  within_two : (x y w : ℕ) → Within 2 (x ∷ y ∷ w ∷ [])
  within_two x y w = grind (arith, nat_tests)

  within_three : (x y w : ℕ) → Within 3 (x ∷ y ∷ w ∷ [])
  within_three x y w = grind (arith, nat_tests)

  -- one number stated
  row_one : (mode : Compat) (operator : Operator) (x : ℕ) → RowAgrees f i mode operator (x ∷ []) p v
  row_one Cargo Bare x = grind (arith, nat_tests)
  row_one mode Hyphen x = grind (arith, nat_tests)
  row_one _ _ x = grind (arith, nat_tests)

  -- two numbers stated
  row_two : (mode : Compat) (operator : Operator) (x y : ℕ) → RowAgrees f i mode operator (x ∷ y ∷ []) p v
  row_two Cargo Bare x y = within_two x y 0
  row_two mode Caret x y = let one = within_one x y 0 in let two = within_two x y 0 in grind (arith, nat_tests)
  row_two _ _ x y = grind (arith, nat_tests)

  -- three numbers stated
  caret_three : (b c : Bool) (x y w : ℕ) → Within (if b then suc (if c then 2 else 1) else 1) (x ∷ y ∷ w ∷ [])
  caret_three true true = within_three
  caret_three true false = within_two
  caret_three false c = within_one

  row_caret : (x y w : ℕ) → RowAgrees f i Npm Caret (x ∷ y ∷ w ∷ []) p v
  row_caret x y w = rw (same_agreement (x ∷ y ∷ w ∷ []) (numbers v)) (caret_three (x == 0) (y == 0) x y w)

  row_three : (mode : Compat) (operator : Operator) (x y w : ℕ) → RowAgrees f i mode operator (x ∷ y ∷ w ∷ []) p v
  row_three Cargo Bare = row_caret
  row_three mode Caret = row_caret
  row_three _ _ = λ x y w. grind (arith, nat_tests)

  -- any row of the table
  any_row : (mode : Compat) (operator : Operator) {s : List ℕ} → Shape s → RowAgrees f i mode operator s p v
  any_row mode operator none = grind (arith, nat_tests)
  any_row mode operator (one x) = row_one mode operator x
  any_row mode operator (two x y) = row_two mode operator x y
  any_row mode operator (three x y w) = row_three mode operator x y w

-- a version satisfies the comparators of a cell if and only if it satisfies the term or is a
-- pre-release of its raised bound
pub row : (v : PlainVersion) (mode : Compat) (operator : Operator) {s : List ℕ} → Shape s → (p : List IdentifierValue)
    → list_all (meets_comparator v) (cell_comparators (cell mode operator s) s (filled s p))
    ≡ (meets_stated mode operator s (filled s p) v || is_pre_release_of v (cell_raised (cell mode operator s) s))
row v mode operator {s = s} shape p =
    rw (← excepted_plainly v (cell_raised (cell mode operator s) s)) (any_row v [] p (lower_tail (tail v.pre)) mode operator shape)

-- a version satisfies the comparators with an exact bound if and only if it satisfies the term
pub exact_row : (v : PlainVersion) (mode : Compat) (operator : Operator) {s : List ℕ} → Shape s → (p : List IdentifierValue)
    → list_all (meets_comparator v) (written_cell lowest_pre_release (cell mode operator s) s (filled s p))
    ≡ meets_stated mode operator s (filled s p) v
exact_row v mode operator {s = s} shape p = any_row v lowest_pre_release p (lower_tail (floor v.pre)) mode operator shape
    ∙ rw (excepted_never v _, or-false)

-- Which numbers fit. In the crate's dialects, the numbers that are raised for the sides of a term fit
-- if and only if those of its raised bound fit. The numbers of a term that was read fit if and only
-- if those of the term of the tree do.
use Rattle.std.proofs.Common.{◌≡◌, ℕ, zero, suc, ◌+◌, ◌-◌, ◌^◌, Bool, true, false, not, ◌&&◌, ◌==◌, List, [], ◌∷◌, length, nat_le, nat_lt}
use Rattle.std.proofs.Common.{Option, Some, None, refl, sym, ap, ◌∙◌, arith}
use Rattle.std.proofs.Math.Bool.{and-true}
use Rattle.std.proofs.lemmas.Bool.{and_parts, both_ways}
use Rattle.std.specs.List.{list_all}
use Rattle.semver_texts.proofs.Lists.{by_test}
use Rattle.semver_texts.specs.Texts.{is_empty}
use Rattle.semver_texts.specs.Versions.{numbers, IdentifierValue, PlainVersion}
use Rattle.semver_ranges.specs.declared.grammar.Simple as read
use Rattle.semver_ranges.specs.declared.range.Compat.TheVariants as mode
use Rattle.semver_ranges.specs.declared.operator.Operator.{Operator}
use Rattle.semver_ranges.specs.declared.operator.Operator.TheVariants.{Bare, Equal, Less, LessOrEqual, Greater, GreaterOrEqual, Tilde}
use Rattle.semver_ranges.specs.declared.operator.Operator.TheVariants.{Caret, Hyphen}
use Rattle.semver_ranges.specs.RangeTree.{Simple}
use Rattle.semver_ranges.specs.Partials.{filled, fits_u64, pre_release, stated, zero_filled}
use Rattle.semver_ranges.specs.RewritingTable.{bound_fits, cell, cell_raised, raised_bound, simple_fits, up}
use Rattle.semver_ranges.specs.Steps.CursorViews.{IsSimpleOf}
use Rattle.semver_ranges.specs.Steps.PartialViews.{stated_of, version_of}
use Rattle.semver_ranges.specs.Terms.{of_simple}
use Rattle.semver_ranges.proofs.Rows.{Shape}
use Rattle.semver_ranges.proofs.SetMeanings.{stated_shape}
use Rattle.semver_ranges.specs.Sides.{SideValue, below, at, past, above}
use Rattle.semver_ranges.specs.declared.dialect.Dialect.{Dialect}
use Rattle.semver_ranges.specs.declared.dialect.Dialect.TheVariants.{Cargo, Npm, CrateCargo, CrateNpm}
use Rattle.semver_ranges.specs.DialectTable.{limit}
use Rattle.semver_ranges.specs.Sides.{may_rise, raised_index, sides, sides_fit, term_fits}
use Rattle.semver_ranges.proofs.Spots.{Spot, leading_of_two, leading_of_three}

-- a test whether a number is at most a limit
module _ (small : ℕ → Bool) (most : ℕ) (is_small : (n : ℕ) → small n ≡ nat_le n most) (next : (n : ℕ) → small (n + 1) ≡ nat_lt n most)
    (zero : small 0 ≡ true) where
  abbrev small_bound : Option PlainVersion → Bool
  small_bound None = true
  small_bound (Some bound) = list_all small (numbers bound)

  all_small : (s : List ℕ) → list_all small s ≡ list_all (λ n. nat_le n most) s
  all_small [] = refl
  all_small (n ∷ s) = λ i. is_small n i && all_small s i

  may : {s : List ℕ} {k : ℕ} → Spot s k → (p : List IdentifierValue) → list_all small s ≡ true
      → may_rise most (Some (above k)) (numbers (filled s p)) ≡ small_bound (Some (up k s))
  may (Spot.first_of_one x) p all = rw zero (sym (and-true _ ∙ next x))
  may (Spot.first_of_two x y) p all = rw zero (sym (and-true _ ∙ next x))
  may (Spot.second_of_two x y) p all = rw (zero, (and_parts (small x) _ all).0) (sym (and-true _ ∙ next y))
  may (Spot.first_of_three x y w) p all = rw zero (sym (and-true _ ∙ next x))
  may (Spot.second_of_three x y w) p all = rw (zero, (and_parts (small x) _ all).0) (sym (and-true _ ∙ next y))
  may (Spot.third_of_three x y w) p all = let more = (and_parts (small x) _ all).1 in
      rw ((and_parts (small x) _ all).0, (and_parts (small y) _ more).0) (sym (and-true _ ∙ next w))

  -- whether the numbers that are raised for the sides are small
  abbrev Rises : Dialect → Operator → List ℕ → List IdentifierValue → Option PlainVersion → Type 0
  Rises d operator s p bound = (may_rise most (sides d operator s (not (is_empty p))).0 (numbers (filled s p))
      && may_rise most (sides d operator s (not (is_empty p))).1 (numbers (filled s p))) ≡ small_bound bound

  -- the crate's dialects
  own_one : (operator : Operator) (x : ℕ) → list_all small (x ∷ []) ≡ true
      → Rises CrateCargo operator (x ∷ []) [] (cell_raised (cell mode.Cargo operator (x ∷ [])) (x ∷ []))
      × Rises CrateNpm operator (x ∷ []) [] (cell_raised (cell mode.Npm operator (x ∷ [])) (x ∷ []))
  own_one Less x all = (refl, refl)
  own_one LessOrEqual x all = (may (Spot.first_of_one x) [] all, may (Spot.first_of_one x) [] all)
  own_one Greater x all = (refl, refl)
  own_one GreaterOrEqual x all = (refl, refl)
  own_one Hyphen x all = (refl, refl)
  own_one Tilde x all = (may (Spot.first_of_one x) [] all, may (Spot.first_of_one x) [] all)
  own_one Caret x all = (may (Spot.first_of_one x) [] all, may (Spot.first_of_one x) [] all)
  own_one Bare x all = (may (Spot.first_of_one x) [] all, may (Spot.first_of_one x) [] all)
  own_one Equal x all = (may (Spot.first_of_one x) [] all, may (Spot.first_of_one x) [] all)

  own_two : (operator : Operator) (x y : ℕ) → list_all small (x ∷ y ∷ []) ≡ true
      → Rises CrateCargo operator (x ∷ y ∷ []) [] (cell_raised (cell mode.Cargo operator (x ∷ y ∷ [])) (x ∷ y ∷ []))
      × Rises CrateNpm operator (x ∷ y ∷ []) [] (cell_raised (cell mode.Npm operator (x ∷ y ∷ [])) (x ∷ y ∷ []))
  own_two Less x y all = (refl, refl)
  own_two LessOrEqual x y all = (may (Spot.second_of_two x y) [] all, may (Spot.second_of_two x y) [] all)
  own_two Greater x y all = (refl, refl)
  own_two GreaterOrEqual x y all = (refl, refl)
  own_two Hyphen x y all = (refl, refl)
  own_two Tilde x y all = (may (Spot.second_of_two x y) [] all, may (Spot.second_of_two x y) [] all)
  own_two Caret x y all = (may (leading_of_two x y) [] all, may (leading_of_two x y) [] all)
  own_two Bare x y all = (may (Spot.second_of_two x y) [] all, may (Spot.second_of_two x y) [] all)
  own_two Equal x y all = (may (Spot.second_of_two x y) [] all, may (Spot.second_of_two x y) [] all)

  own_three : (operator : Operator) (x y w : ℕ) (p : List IdentifierValue) → list_all small (x ∷ y ∷ w ∷ []) ≡ true
      → Rises CrateCargo operator (x ∷ y ∷ w ∷ []) p (cell_raised (cell mode.Cargo operator (x ∷ y ∷ w ∷ [])) (x ∷ y ∷ w ∷ []))
      × Rises CrateNpm operator (x ∷ y ∷ w ∷ []) p (cell_raised (cell mode.Npm operator (x ∷ y ∷ w ∷ [])) (x ∷ y ∷ w ∷ []))
  own_three Less x y w p all = (refl, refl)
  own_three LessOrEqual x y w p all = (refl, refl)
  own_three Greater x y w p all = (refl, refl)
  own_three GreaterOrEqual x y w p all = (refl, refl)
  own_three Hyphen x y w p all = (refl, refl)
  own_three Tilde x y w p all = (may (Spot.second_of_three x y w) p all, may (Spot.second_of_three x y w) p all)
  own_three Caret x y w p all = (may (leading_of_three x y w) p all, may (leading_of_three x y w) p all)
  own_three Bare x y w p all = (may (leading_of_three x y w) p all, refl)
  own_three Equal x y w p all = (refl, refl)

  own_none : (operator : Operator) (p : List IdentifierValue)
      → Rises CrateCargo operator [] p (cell_raised (cell mode.Cargo operator []) []) × Rises CrateNpm operator [] p (cell_raised (cell mode.Npm operator []) [])
  own_none Less p = (refl, refl)
  own_none Greater p = (refl, refl)
  own_none _ p = (refl, refl)

  pub own_rises : (operator : Operator) {s : List ℕ} → Shape s → (p : List IdentifierValue) → ((length s == 3) ≡ false → p ≡ []) → list_all small s ≡ true
      → Rises CrateCargo operator s p (cell_raised (cell mode.Cargo operator s) s) × Rises CrateNpm operator s p (cell_raised (cell mode.Npm operator s) s)
  own_rises operator Shape.none p none all = own_none operator p
  own_rises operator (Shape.one x) p none all = own_one operator x all
  own_rises operator (Shape.two x y) p none all = own_two operator x y all
  own_rises operator (Shape.three x y w) p none all = own_three operator x y w p all

  -- the stated numbers and the raised ones fit
  pub both_fit : (s : List ℕ) (rises fits : Bool) → (list_all small s ≡ true → rises ≡ fits)
      → (list_all (λ n. nat_le n most) s && rises) ≡ (list_all small s && fits)
  both_fit s rises fits same = ap (λ b. b && rises) (sym (all_small s)) ∙ by_test (list_all small s)
      (λ y. rw y (same y))
      (λ n. rw n refl)

-- ---- the limits of the dialects
u64_is : (n : ℕ) → fits_u64 n ≡ nat_le n (2 ^ 64 - 1)
u64_is n = grind arith

u64_next : (n : ℕ) → fits_u64 (n + 1) ≡ nat_lt n (2 ^ 64 - 1)
u64_next n = grind arith

pub none_stated : (s : Simple) → (length (stated s.partial) == 3) ≡ false → pre_release s.partial ≡ []
none_stated s n = rw n refl

same_u64 : (o : Option PlainVersion) → small_bound fits_u64 (2 ^ 64 - 1) u64_is u64_next refl o ≡ bound_fits o
same_u64 None = refl
same_u64 (Some b) = refl

-- a stated number that may be raised fits when it is raised
pub raised_fits : {s : List ℕ} {k : ℕ} → Spot s k → (p : List IdentifierValue) → list_all fits_u64 s ≡ true
    → may_rise (2 ^ 64 - 1) (Some (above k)) (numbers (filled s p)) ≡ true → list_all fits_u64 (numbers (up k s)) ≡ true
raised_fits spot p all may_be = sym (may fits_u64 (2 ^ 64 - 1) u64_is u64_next refl spot p all) ∙ may_be

-- in the crate's dialects, the test by the sides has the result of the crate's table
pub own_fits : (s : Simple) → (term_fits CrateCargo s ≡ simple_fits mode.Cargo s) × (term_fits CrateNpm s ≡ simple_fits mode.Npm s)
own_fits s =
    let rises : list_all fits_u64 (stated s.partial) ≡ true
    → Rises fits_u64 (2 ^ 64 - 1) u64_is u64_next refl CrateCargo s.operator (stated s.partial) (pre_release s.partial) (raised_bound mode.Cargo (of_simple s))
    × Rises fits_u64 (2 ^ 64 - 1) u64_is u64_next refl CrateNpm s.operator (stated s.partial) (pre_release s.partial) (raised_bound mode.Npm (of_simple s))
    = own_rises fits_u64 (2 ^ 64 - 1) u64_is u64_next refl s.operator (stated_shape s.partial) (pre_release s.partial) (none_stated s) in (
      both_fit fits_u64 (2 ^ 64 - 1) u64_is u64_next refl (stated s.partial) _ _
          (λ all. (rises all).0 ∙ same_u64 (raised_bound mode.Cargo (of_simple s))),
      both_fit fits_u64 (2 ^ 64 - 1) u64_is u64_next refl (stated s.partial) _ _
          (λ all. (rises all).1 ∙ same_u64 (raised_bound mode.Npm (of_simple s))),
    )

-- numbers within the limit of a dialect are below 2^64
abbrev is_within_limit : Dialect → ℕ → Bool
is_within_limit d n = nat_le n (limit d)

within_one : (d : Dialect) (n : ℕ) → is_within_limit d n ≡ true → fits_u64 n ≡ true
within_one Cargo n e = u64_is n ∙ e
within_one Npm n e = grind arith
within_one CrateCargo n e = u64_is n ∙ e
within_one CrateNpm n e = u64_is n ∙ e

within_all : (d : Dialect) (s : List ℕ) → list_all (is_within_limit d) s ≡ true → list_all fits_u64 s ≡ true
within_all d [] e = refl
within_all d (n ∷ s) e = let parts = and_parts (is_within_limit d n) (list_all (is_within_limit d) s) e in
    rw (within_one d n parts.0) (within_all d s parts.1)

-- if the numbers of a term fit, the stated ones are below 2^64
pub term_stated : (d : Dialect) (s : Simple) → term_fits d s ≡ true → list_all fits_u64 (stated s.partial) ≡ true
term_stated d s e = within_all d (stated s.partial) (and_parts _ _ e).0

-- the same for a term that was read
module _ (s : Simple) (simple : read.Simple) (is : IsSimpleOf s simple) where
  same_sides : (d : Dialect) → list_all fits_u64 (stated s.partial) ≡ true
      → sides_fit d simple.operator (stated_of simple.partial) (version_of simple.partial)
      ≡ sides_fit d s.operator (stated s.partial) (zero_filled s.partial)
  same_sides d fit = let same = is.1.1 (sym is.1.0 ∙ fit) in λ i. sides_fit d (is.0 i) (same.0 i) (same.1 i)

  pub read_fits : (d : Dialect) → (simple.partial.fits && sides_fit d simple.operator (stated_of simple.partial) (version_of simple.partial))
      ≡ term_fits d s
  read_fits d = by_test (list_all fits_u64 (stated s.partial))
      (λ y. rw (sym is.1.0 ∙ y) (same_sides d y))
      (λ n. rw (sym is.1.0 ∙ n) (sym (by_test (term_fits d s) (λ y. absurd (both_ways _ n (term_stated d s y))) (λ no. no))))

  -- the same number is raised for its sides
  pub read_raised : (d : Dialect) → list_all (is_within_limit d) (stated s.partial) ≡ true
      → raised_index (sides d simple.operator (stated_of simple.partial) (not (is_empty (version_of simple.partial).pre)))
      ≡ raised_index (sides d s.operator (stated s.partial) (not (is_empty (zero_filled s.partial).pre)))
  read_raised d all =
      let same = is.1.1 (sym is.1.0 ∙ within_all d (stated s.partial) all) in
      λ i. raised_index (sides d (is.0 i) (same.0 i) (not (is_empty (same.1 i).pre)))

-- two ways of testing whether the numbers of a term fit have the same result
regroup : (f l a b : Bool) → (((f && l) && a) && b) ≡ (f && (l && (a && b)))
regroup true true a b = refl
regroup true false a b = refl
regroup false l a b = refl

pub fit_so : (f : Bool) (most most' : ℕ) (lower upper : Option SideValue) (all : Option SideValue × Option SideValue) (s ns : List ℕ)
    → most ≡ most' → lower ≡ all.0 → upper ≡ all.1
    → (((f && list_all (λ n. nat_le n most) s) && may_rise most lower ns) && may_rise most upper ns)
    ≡ (f && (list_all (λ n. nat_le n most') s && (may_rise most' all.0 ns && may_rise most' all.1 ns)))
fit_so f most most' lower upper all s ns e g h =
    (λ i. ((f && list_all (λ n. nat_le n (e i)) s) && may_rise (e i) (g i) ns) && may_rise (e i) (h i) ns)
    ∙ regroup f (list_all (λ n. nat_le n most') s) (may_rise most' all.0 ns) (may_rise most' all.1 ns)

-- if a number may be raised within npm's limit, it may be raised within 64 bits
pub rises_too : (o : Option SideValue) (v : PlainVersion) → may_rise (2 ^ 53 - 1) o (numbers v) ≡ true → may_rise (2 ^ 64 - 1) o (numbers v) ≡ true
rises_too None v e = refl
rises_too (Some below) v e = refl
rises_too (Some at) v e = refl
rises_too (Some past) v e = refl
rises_too (Some (above zero)) v e = refl
rises_too (Some (above (suc k))) v e = grind arith

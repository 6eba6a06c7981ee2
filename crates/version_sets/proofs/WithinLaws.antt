-- The first version of a kind, with numbers within a limit, at or above a boundary, and inside some
-- boundaries.
use Rattle.std.proofs.Common.{arith, ◌≡◌, ◌≤◌, ℕ, Bool, true, false, cond, not, List, [], ◌∷◌, Option, Some, None, refl, sym, ap, ◌∙◌, map, subst, true≢false}
use Rattle.std.proofs.Common.{Ordering, Less, Equal, is_eq, is_ge, is_lt}
use Rattle.std.specs.Cmp.{tied_itself}
use Rattle.std.specs.Ordering.{ordering_reverse, ordering_then}
use Rattle.semver_texts.specs.Precedence.{pre_cmp, precedence}
use Rattle.semver_texts.specs.Steps.PrecedenceLaws.{precedence_total}
use Rattle.semver_texts.specs.Texts.{is_empty}
use Rattle.semver_texts.specs.Versions.{PlainVersion}
use Rattle.version_sets.specs.Boundaries.{is_inside, IsBelowFirst, IsIncreasing}
use Rattle.version_sets.specs.Releases.{release_value}
use Rattle.version_sets.specs.VersionSets.{AreBoundaries}
use Rattle.version_sets.specs.Steps.Numbers.{lowest_place, numbers_cmp}
use Rattle.version_sets.specs.Steps.Within.{AreFirstNumbers, IsFirstFrom, IsFirstInside, IsOfKindWithin, first_place, lowest_of_kind}
use Rattle.version_sets.specs.declared.release.Release.{Release}
use Rattle.version_sets.proofs.NumberLaws.{against, by_numbers, from_lowest}
use Rattle.version_sets.proofs.BoundaryLaws.{below-first, by_order, by_place, is_inside-at, is_inside-below, turned_below}

-- ---- the first version at or above a boundary

less_first : (o r : Ordering) → o ≡ Less → ordering_then o r ≡ Less
less_first o r e = rw e refl

not_ge : (o : Ordering) → is_ge o ≡ false → o ≡ Less
not_ge o e = grind arith

above_both : (o r : Ordering) → is_ge o ≡ true → is_eq o ≡ false → is_ge (ordering_then o r) ≡ true
above_both o r e n = grind arith

same_parts : (v w : PlainVersion) → numbers_cmp v w ≡ Equal → (v.major ≡ w.major) × (v.minor ≡ w.minor) × (v.patch ≡ w.patch)
same_parts v w e = grind arith

then_equal : (o : Ordering) → ordering_then o Equal ≡ o
then_equal o = grind arith

eq_is : (o : Ordering) → is_eq o ≡ true → o ≡ Equal
eq_is o e = grind arith

-- without pre-releases, precedence compares only the numbers
same_pre : (v w : PlainVersion) → is_empty v.pre ≡ true → is_empty w.pre ≡ true → precedence v w ≡ numbers_cmp v w
same_pre v w e f = by_numbers v w ∙ ap (ordering_then (numbers_cmp v w)) (both v.pre w.pre e f) ∙ then_equal (numbers_cmp v w)
  where
    both : (xs ys : List _) → is_empty xs ≡ true → is_empty ys ≡ true → pre_cmp xs ys ≡ Equal
    both [] [] e f = refl
    both (x ∷ xs) ys e f = absurd (true≢false (sym e))
    both [] (y ∷ ys) e f = absurd (true≢false (sym f))

-- the lowest version of a kind with the first numbers, which are above those of the boundary
module _ (most : ℕ) (b : PlainVersion) (r : Release) (first : AreFirstNumbers most b (Some r)) where
  lowest_release : is_empty b.pre ≡ true → IsFirstFrom (IsOfKindWithin true most) b (Some (release_value r))
  lowest_release none = (
    (first.0, refl),
    ap is_ge (same_pre (release_value r) b refl none) ∙ first.1,
    λ v p l. same_pre v b p.1 none ∙ first.2 v p.0 (sym (same_pre v (release_value r) p.1 refl) ∙ l),
  )

  lowest_pre_release : is_eq (numbers_cmp (release_value r) b) ≡ false → IsFirstFrom (IsOfKindWithin false most) b (Some (lowest_place r))
  lowest_pre_release n = (
    (first.0, refl),
    ap is_ge (by_numbers (lowest_place r) b) ∙ above_both (numbers_cmp (release_value r) b) _ first.1 n,
    λ v p l. by_numbers v b ∙ less_first (numbers_cmp v b) _ (first.2 v p.0 (not_ge _ (against is_ge is_ge v (lowest_place r) refl refl
        (from_lowest v.pre p.1) ∙ ap is_ge l))),
  )

  -- the boundary itself, if it has these numbers
  at_boundary : (kind : Bool) → is_empty b.pre ≡ kind → numbers_cmp (release_value r) b ≡ Equal → IsFirstFrom (IsOfKindWithin kind most) b (Some b)
  at_boundary kind of_kind e =
      let same = same_parts (release_value r) b e in
      let within = first.0 in (
        ((subst (λ n. n ≤ most) same.0 within.0, subst (λ n. n ≤ most) same.1 within.1, subst (λ n. n ≤ most) same.2 within.2), of_kind),
        ap is_ge (tied_itself precedence_total b),
        λ v p l. l,
      )

  pub first_from : (kind : Bool) → is_empty b.pre ≡ kind → IsFirstFrom (IsOfKindWithin kind most) b (Some (first_place kind b r))
  first_from kind of_kind = at (is_eq (numbers_cmp (release_value r) b)) refl
    where
      lowest : (kind : Bool) → is_empty b.pre ≡ kind → is_eq (numbers_cmp (release_value r) b) ≡ false
          → IsFirstFrom (IsOfKindWithin kind most) b (Some (lowest_of_kind kind r))
      lowest true none _ = lowest_release none
      lowest false _ n = lowest_pre_release n

      at : (t : Bool) → is_eq (numbers_cmp (release_value r) b) ≡ t
          → IsFirstFrom (IsOfKindWithin kind most) b (Some (cond t b (lowest_of_kind kind r)))
      at true e = at_boundary kind of_kind (eq_is _ e)
      at false e = lowest kind of_kind e

-- ---- the first version inside some boundaries

pub less_is : (o : Ordering) → is_lt o ≡ true → o ≡ Less
less_is o e = grind arith

pub first_two : {A B : Type 0} (f : A → B) {x y : A} {xs rest others : List A} → xs ≡ x ∷ rest → rest ≡ y ∷ others
    → map f xs ≡ f x ∷ f y ∷ map f others
first_two f {x} p q = ap (map f) p ∙ ap (λ l. f x ∷ map f l) q

module _ (P : PlainVersion → Type 0) where
  -- what is first inside some boundaries is so inside others with the same versions with P
  pub same_inside : (xs ys : List PlainVersion) (found : Option PlainVersion)
      → ((v : PlainVersion) → P v → is_inside precedence xs v ≡ is_inside precedence ys v) → IsFirstInside P ys found → IsFirstInside P xs found
  same_inside xs ys None same none = λ v p. same v p ∙ none v p
  same_inside xs ys (Some c) same (p, inside, least) = (p, same c p ∙ inside, λ v q i. least v q (sym (same v q) ∙ i))

  -- the first version is below the next boundary
  pub found_inside : (b c : PlainVersion) (ys : List PlainVersion) → IsFirstFrom P b (Some c) → IsBelowFirst precedence c ys
      → IsFirstInside P (b ∷ ys) (Some c)
  found_inside b c ys (p, ge, least) below = (
    p,
    is_inside-at precedence c b ys ge ∙ ap not (is_inside-below precedence c ys below),
    λ v q inside l. true≢false (sym inside ∙ is_inside-below precedence v (b ∷ ys) (least v q l)),
  )

  -- it isn't, so no version with P is between the two boundaries
  module _ (b e c : PlainVersion) (ys : List PlainVersion) (first : IsFirstFrom P b (Some c)) (above : is_lt (precedence c e) ≡ false)
      (order : IsIncreasing precedence (b ∷ e ∷ ys)) where
    below_c : (v : PlainVersion) → precedence v e ≡ Less → precedence v c ≡ Less
    below_c v l = by_order (precedence c e)
        (λ less. absurd (true≢false (sym (ap is_lt less) ∙ above)))
        (λ equal. precedence_total.antisymm v c ∙ ap ordering_reverse (precedence_total.congr c e v equal) ∙ sym (precedence_total.antisymm v e) ∙ l)
        (λ greater. precedence_total.trans v e c l (turned_below precedence precedence_total c e greater))

    pub alike : (v : PlainVersion) → P v → is_inside precedence (b ∷ e ∷ ys) v ≡ is_inside precedence ys v
    alike v p = by_place (precedence v e)
        (λ l. is_inside-below precedence v (b ∷ e ∷ ys) (first.2 v p (below_c v l))
        ∙ sym (is_inside-below precedence v ys (below-first precedence precedence_total v e ys l order.1.0)))
        (λ ge. is_inside-at precedence v b (e ∷ ys) (at_b v ge) ∙ ap not (is_inside-at precedence v e ys ge) ∙ twice (is_inside precedence ys v))
      where
        twice : (x : Bool) → not (not x) ≡ x
        twice x = grind arith

        at_b : (v : PlainVersion) → is_ge (precedence v e) ≡ true → is_ge (precedence v b) ≡ true
        at_b v ge = by_place (precedence v b)
            (λ l. absurd (true≢false (sym ge ∙ ap is_ge (precedence_total.trans v b e l order.0))))
            (λ g. g)

  -- a step of the search: of the boundaries `left`, b and e are the first two, and c is the first version
  -- with P at or above b. It is found if it is below e; else the search goes on with the others
  module _ (all left others : List PlainVersion) (b e c : PlainVersion) (begin : left ≡ b ∷ e ∷ others) (first : IsFirstFrom P b (Some c))
      (same : (v : PlainVersion) → P v → is_inside precedence all v ≡ is_inside precedence left v) where
    same_here : (v : PlainVersion) → P v → is_inside precedence all v ≡ is_inside precedence (b ∷ e ∷ others) v
    same_here v p = same v p ∙ ap (λ l. is_inside precedence l v) begin

    pub found_here : is_lt (precedence c e) ≡ true → IsFirstInside P all (Some c)
    found_here below =
        same_inside all (b ∷ e ∷ others) (Some c) same_here (found_inside b c (e ∷ others) first (less_is (precedence c e) below))

    pub goes_on : is_lt (precedence c e) ≡ false → (K : PlainVersion → Type 0) → AreBoundaries K left
        → ((v : PlainVersion) → P v → is_inside precedence all v ≡ is_inside precedence others v) × AreBoundaries K others
    goes_on above K boundaries =
        let kinds = subst (AreBoundaries K) begin boundaries in (
          λ v p. same_here v p ∙ alike b e c others first above kinds.increase v p,
          record { increase = kinds.increase.1.1; are_of_kind = kinds.are_of_kind.1.1 },
        )

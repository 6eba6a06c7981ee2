-- The versions that satisfy a term in npm's dialect are those between the sides in its table.
use Rattle.std.proofs.Common.{◌≡◌, ℕ, Bool, true, false, not, ◌&&◌, ◌||◌, ◌==◌, if◌then◌else◌, List, [], ◌∷◌, length}
use Rattle.std.proofs.Common.{refl, sym, ap, ◌∙◌, rules}
use Rattle.std.proofs.Math.Bool.{and-true, and-false}
use Rattle.std.specs.Prelude.{Some}
use Rattle.std.specs.Ordering.{nat_cmp, ordering_then, is_eq, is_gt, is_ge}
use Rattle.semver_texts.specs.Precedence.{precedence, pre_cmp}
use Rattle.semver_texts.specs.Texts.{is_empty}
use Rattle.semver_texts.specs.Versions.{numbers, IdentifierValue, PlainVersion}
use Rattle.semver_texts.proofs.Lists.{by_test}
use Rattle.semver_ranges.specs.declared.operator.Operator.{Operator}
use Rattle.semver_ranges.specs.declared.operator.Operator.TheVariants.{Bare, Equal, Less, LessOrEqual, Greater, GreaterOrEqual, Tilde}
use Rattle.semver_ranges.specs.declared.operator.Operator.TheVariants.{Caret, Hyphen}
use Rattle.semver_ranges.specs.CrateMeaning.{agrees, agrees_past_zeros}
use Rattle.semver_ranges.specs.Partials.{filled, leading_place}
use Rattle.semver_ranges.proofs.Rows.{Shape, step}
use Rattle.semver_ranges.specs.Sides.{at, below}
use Rattle.version_sets.specs.Steps.Cuts.{first_numbers}
use Rattle.version_sets.specs.declared.rules.PreReleases.TheVariants.{ByDialect, Included}
use Rattle.tool_ranges.specs.CargoMeaning.{against}
use Rattle.tool_ranges.specs.NpmMeaning.{is_zero, is_from, meets_by_count}
use Rattle.tool_ranges.specs.Steps.Table.{is_within, is_counted_within, is_past_release}
use Rattle.semver_ranges.specs.declared.dialect.Dialect.TheVariants.{Npm}
use Rattle.tool_ranges.proofs.NumberSteps.{not_less, is_above, is_above_after}
use Rattle.semver_ranges.proofs.Spots.{Spot, leading_of_two, leading_of_three}
use Rattle.tool_ranges.proofs.Cells.{agrees_within, past_zeros_within, from_first, numbers_first}
use Rattle.tool_ranges.proofs.Cells.{not_ge, not_gt, both_eq, one_from, two_from, one_below, two_below, none_from}

module _ (v : PlainVersion) where
  -- ---- with every pre-release within the bounds
  abbrev AllCell : Operator → List ℕ → List IdentifierValue → Type 0
  AllCell operator s p = meets_by_count Included operator s (filled s p) v ≡ is_within Npm operator s (filled s p) v

  all_none : (operator : Operator) → AllCell operator [] []
  all_none Less = ap not (sym (none_from v))
  all_none Greater = ap not (sym (none_from v))
  all_none _ = sym (and-true _ ∙ none_from v)

  -- versions that agree with one or two stated numbers
  one_block : (x : ℕ) → (is_ge (against (x ∷ []) v) && agrees 1 (x ∷ []) v)
      ≡ (is_ge (first_numbers 3 v (filled (x ∷ []) [])) && not (is_gt (first_numbers 1 v (filled (x ∷ []) []))))
  one_block x = ap (λ b. b && agrees 1 (x ∷ []) v) (sym (one_from v x))
      ∙ agrees_within v (Spot.first_of_one x) [] _ (numbers_first v (Spot.first_of_one x) [])

  two_block : (x y : ℕ) → (is_ge (against (x ∷ y ∷ []) v) && agrees 2 (x ∷ y ∷ []) v)
      ≡ (is_ge (first_numbers 3 v (filled (x ∷ y ∷ []) [])) && not (is_gt (first_numbers 2 v (filled (x ∷ y ∷ []) []))))
  two_block x y = ap (λ b. b && agrees 2 (x ∷ y ∷ []) v) (sym (two_from v x y))
      ∙ agrees_within v (Spot.second_of_two x y) [] _ (numbers_first v (Spot.second_of_two x y) [])

  all_one : (operator : Operator) (x : ℕ) → AllCell operator (x ∷ []) []
  all_one Less x = sym (not_ge _ ∙ one_below v x)
  all_one LessOrEqual x = sym (not_gt _)
  all_one Greater x = sym (and-true _)
  all_one GreaterOrEqual x = sym (and-true _ ∙ one_from v x)
  all_one Hyphen x = sym (and-true _ ∙ one_from v x)
  all_one Caret x = ap (λ b. b && agrees_past_zeros (x ∷ []) (numbers v)) (sym (one_from v x))
      ∙ past_zeros_within v (Spot.first_of_one x) [] _ (numbers_first v (Spot.first_of_one x) [])
  all_one Tilde x = agrees_within v (Spot.first_of_one x) [] _ (from_first v (Spot.first_of_one x) [])
  all_one Bare x = one_block x
  all_one Equal x = one_block x

  all_two : (operator : Operator) (x y : ℕ) → AllCell operator (x ∷ y ∷ []) []
  all_two Less x y = sym (not_ge _ ∙ two_below v x y)
  all_two LessOrEqual x y = sym (not_gt _)
  all_two Greater x y = sym (and-true _)
  all_two GreaterOrEqual x y = sym (and-true _ ∙ two_from v x y)
  all_two Hyphen x y = sym (and-true _ ∙ two_from v x y)
  all_two Caret x y = ap (λ b. b && agrees_past_zeros (x ∷ y ∷ []) (numbers v)) (sym (two_from v x y))
      ∙ past_zeros_within v (leading_of_two x y) [] _ (numbers_first v (leading_of_two x y) [])
  all_two Tilde x y = agrees_within v (Spot.second_of_two x y) [] _ (from_first v (Spot.second_of_two x y) [])
  all_two Bare x y = two_block x y
  all_two Equal x y = two_block x y

  all_caret : (x y w : ℕ) (p : List IdentifierValue) → AllCell Caret (x ∷ y ∷ w ∷ []) p
  all_caret x y w [] = by_test (x == 0)
      (λ z. let cell = past_zeros_within v (leading_of_three x y w) [] (is_ge (first_numbers 3 v (filled (x ∷ y ∷ w ∷ []) [])))
      (numbers_first v (leading_of_three x y w) []) in rw z (rw z at cell))
      (λ n. let cell = past_zeros_within v (leading_of_three x y w) [] _ (from_first v (leading_of_three x y w) []) in rw n (rw n at cell))
  all_caret x y w (i ∷ p) = by_test (x == 0)
      (λ z. let cell = past_zeros_within v (leading_of_three x y w) (i ∷ p) _ (from_first v (leading_of_three x y w) (i ∷ p)) in rw z (rw z at cell))
      (λ n. let cell = past_zeros_within v (leading_of_three x y w) (i ∷ p) _ (from_first v (leading_of_three x y w) (i ∷ p)) in rw n (rw n at cell))

  all_three : (operator : Operator) (x y w : ℕ) (p : List IdentifierValue) → AllCell operator (x ∷ y ∷ w ∷ []) p
  all_three Less x y w p = sym (not_ge _)
  all_three LessOrEqual x y w p = sym (not_gt _)
  all_three Greater x y w p = sym (and-true _)
  all_three GreaterOrEqual x y w p = sym (and-true _)
  all_three Hyphen x y w [] = sym (and-true _)
  all_three Hyphen x y w (i ∷ p) = sym (and-true _)
  all_three Caret x y w p = all_caret x y w p
  all_three Tilde x y w p = agrees_within v (Spot.second_of_three x y w) p _ (from_first v (Spot.second_of_three x y w) p)
  all_three Bare x y w p = sym (both_eq _)
  all_three Equal x y w p = sym (both_eq _)

  pub npm_all : (operator : Operator) {s : List ℕ} → Shape s → (p : List IdentifierValue) → ((length s == 3) ≡ false → p ≡ []) → AllCell operator s p
  npm_all operator Shape.none p none = rw (none refl) (all_none operator)
  npm_all operator (Shape.one x) p none = rw (none refl) (all_one operator x)
  npm_all operator (Shape.two x y) p none = rw (none refl) (all_two operator x y)
  npm_all operator (Shape.three x y w) p none = all_three operator x y w p

  -- ---- by default: no lower bound if the zero-filled version is 0.0.0
  zero_first : (z : PlainVersion) → is_zero z ≡ true → is_ge (first_numbers 3 v z) ≡ true
  zero_first z y = search rules

  zero_from : {s : List ℕ} {k : ℕ} → Spot s k → (p : List IdentifierValue) → is_from ByDialect (filled s p) v ≡ true
      → is_ge (first_numbers k v (filled s p)) ≡ true
  zero_from {s = s} spot p h = by_test (is_zero (filled s p))
      (λ y. numbers_first v spot p (zero_first (filled s p) y))
      (λ n. from_first v spot p (rw n at h))

  -- ---- by default, for pre-releases
  abbrev CountedCell : Operator → List ℕ → List IdentifierValue → Type 0
  CountedCell operator s p = meets_by_count ByDialect operator s (filled s p) v ≡ is_counted_within Npm operator s (filled s p) v

  from_is : (z : PlainVersion) → ((is_zero z && true) || is_ge (precedence v z)) ≡ is_from ByDialect z v
  from_is z = ap (λ b. b || is_ge (precedence v z)) (and-true (is_zero z))

  counted_none : (operator : Operator) → CountedCell operator [] []
  counted_none Less = ap not (sym (none_from v))
  counted_none Greater = ap not (sym (none_from v))
  counted_none _ = refl

  counted_block : {s : List ℕ} {k : ℕ} → Spot s k → (p : List IdentifierValue) → (is_from ByDialect (filled s p) v && agrees k s v)
      ≡ (((is_zero (filled s p) && true) || is_ge (precedence v (filled s p))) && not (is_gt (first_numbers k v (filled s p))))
  counted_block {s = s} {k = k} spot p = agrees_within v spot p _ (zero_from spot p)
      ∙ ap (λ b. b && not (is_gt (first_numbers k v (filled s p)))) (sym (from_is (filled s p)))

  counted_caret : {s : List ℕ} → Spot s (leading_place s) → (p : List IdentifierValue)
      → (is_from ByDialect (filled s p) v && agrees_past_zeros s (numbers v))
      ≡ (((is_zero (filled s p) && true) || is_ge (precedence v (filled s p)))
      && not (is_gt (first_numbers (leading_place s) v (filled s p))))
  counted_caret {s = s} spot p = past_zeros_within v spot p _ (zero_from spot p)
      ∙ ap (λ b. b && not (is_gt (first_numbers (leading_place s) v (filled s p)))) (sym (from_is (filled s p)))

  counted_from : (z : PlainVersion) → is_from ByDialect z v ≡ (((is_zero z && true) || is_ge (precedence v z)) && true)
  counted_from z = sym (and-true _ ∙ from_is z)

  counted_one : (operator : Operator) (x : ℕ) → CountedCell operator (x ∷ []) []
  counted_one Less x = sym (not_ge _ ∙ one_below v x)
  counted_one LessOrEqual x = sym (not_gt _)
  counted_one Greater x = sym (and-true _)
  counted_one GreaterOrEqual x = counted_from (filled (x ∷ []) [])
  counted_one Hyphen x = counted_from (filled (x ∷ []) [])
  counted_one Caret x = counted_caret (Spot.first_of_one x) []
  counted_one Tilde x = counted_block (Spot.first_of_one x) []
  counted_one Bare x = counted_block (Spot.first_of_one x) []
  counted_one Equal x = counted_block (Spot.first_of_one x) []

  counted_two : (operator : Operator) (x y : ℕ) → CountedCell operator (x ∷ y ∷ []) []
  counted_two Less x y = sym (not_ge _ ∙ two_below v x y)
  counted_two LessOrEqual x y = sym (not_gt _)
  counted_two Greater x y = sym (and-true _)
  counted_two GreaterOrEqual x y = counted_from (filled (x ∷ y ∷ []) [])
  counted_two Hyphen x y = counted_from (filled (x ∷ y ∷ []) [])
  counted_two Caret x y = counted_caret (leading_of_two x y) []
  counted_two Tilde x y = counted_block (Spot.second_of_two x y) []
  counted_two Bare x y = counted_block (Spot.second_of_two x y) []
  counted_two Equal x y = counted_block (Spot.second_of_two x y) []

  either_side : (b : Bool) (z : PlainVersion) → is_past_release (Some (if b then below else at)) false z v
      ≡ ((is_zero z && true) || is_ge (precedence v z))
  either_side true z = refl
  either_side false z = refl

  counted_caret_three : (x y w : ℕ) (p : List IdentifierValue) → CountedCell Caret (x ∷ y ∷ w ∷ []) p
  counted_caret_three x y w p = let z = filled (x ∷ y ∷ w ∷ []) p in
      counted_caret (leading_of_three x y w) p
      ∙ ap (λ b. b && not (is_gt (first_numbers (leading_place (x ∷ y ∷ w ∷ [])) v z))) (sym (either_side (not (not (is_empty p)) && (x == 0)) z))

  -- `=` with three numbers has a lower bound even if it is 0.0.0
  counted_equal : (z : PlainVersion) → is_eq (precedence v z)
      ≡ (((is_zero z && false) || is_ge (precedence v z)) && not (is_gt (precedence v z)))
  counted_equal z = sym (ap (λ b. (b || is_ge (precedence v z)) && not (is_gt (precedence v z))) (and-false (is_zero z)) ∙ both_eq _)

  counted_three : (operator : Operator) (x y w : ℕ) (p : List IdentifierValue) → CountedCell operator (x ∷ y ∷ w ∷ []) p
  counted_three Less x y w p = sym (not_ge _)
  counted_three LessOrEqual x y w p = sym (not_gt _)
  counted_three Greater x y w p = sym (and-true _)
  counted_three GreaterOrEqual x y w p = counted_from (filled (x ∷ y ∷ w ∷ []) p)
  counted_three Hyphen x y w [] = counted_from (filled (x ∷ y ∷ w ∷ []) [])
  counted_three Hyphen x y w (i ∷ p) = counted_from (filled (x ∷ y ∷ w ∷ []) (i ∷ p))
  counted_three Caret x y w p = counted_caret_three x y w p
  counted_three Tilde x y w p = counted_block (Spot.second_of_three x y w) p
  counted_three Bare x y w p = counted_equal (filled (x ∷ y ∷ w ∷ []) p)
  counted_three Equal x y w p = counted_equal (filled (x ∷ y ∷ w ∷ []) p)

  pub npm_counted : (operator : Operator) {s : List ℕ} → Shape s → (p : List IdentifierValue) → ((length s == 3) ≡ false → p ≡ [])
      → CountedCell operator s p
  npm_counted operator Shape.none p none = rw (none refl) (counted_none operator)
  npm_counted operator (Shape.one x) p none = rw (none refl) (counted_one operator x)
  npm_counted operator (Shape.two x y) p none = rw (none refl) (counted_two operator x y)
  npm_counted operator (Shape.three x y w) p none = counted_three operator x y w p

  -- ---- by default, for releases
  module _ (release : v.pre ≡ []) where
    abbrev ReleaseCell : Operator → List ℕ → List IdentifierValue → Type 0
    ReleaseCell operator s p = meets_by_count ByDialect operator s (filled s p) v ≡ is_within Npm operator s (filled s p) v

    past_zero : (z : PlainVersion) → is_zero z ≡ true → is_ge (precedence v z) ≡ true
    past_zero z y = search rules

    release_from : (z : PlainVersion) → is_from ByDialect z v ≡ is_ge (precedence v z)
    release_from z = by_test (is_zero z) (λ y. rw (y, past_zero z y) refl) (λ n. rw n refl)

    numbers_from : (z : PlainVersion) → z.pre ≡ [] → is_ge (precedence v z) ≡ is_ge (first_numbers 3 v z)
    numbers_from z none = search rules

    from_numbers : (s : List ℕ) → is_from ByDialect (filled s []) v ≡ is_ge (first_numbers 3 v (filled s []))
    from_numbers s = release_from _ ∙ numbers_from (filled s []) refl

    release_block : {s : List ℕ} {k : ℕ} → Spot s k → (is_from ByDialect (filled s []) v && agrees k s v)
        ≡ (is_ge (first_numbers 3 v (filled s [])) && not (is_gt (first_numbers k v (filled s []))))
    release_block {s = s} {k = k} spot = ap (λ b. b && agrees k s v) (from_numbers s)
        ∙ agrees_within v spot [] _ (numbers_first v spot [])

    release_caret : {s : List ℕ} → Spot s (leading_place s) → (is_from ByDialect (filled s []) v && agrees_past_zeros s (numbers v))
        ≡ (is_ge (first_numbers 3 v (filled s [])) && not (is_gt (first_numbers (leading_place s) v (filled s []))))
    release_caret {s = s} spot = ap (λ b. b && agrees_past_zeros s (numbers v)) (from_numbers s)
        ∙ past_zeros_within v spot [] _ (numbers_first v spot [])

    exact_block : {s : List ℕ} {k : ℕ} → Spot s k → (p : List IdentifierValue) → (is_from ByDialect (filled s p) v && agrees k s v)
        ≡ (is_ge (precedence v (filled s p)) && not (is_gt (first_numbers k v (filled s p))))
    exact_block {s = s} {k = k} spot p = ap (λ b. b && agrees k s v) (release_from (filled s p))
        ∙ agrees_within v spot p _ (from_first v spot p)

    exact_caret : {s : List ℕ} → Spot s (leading_place s) → (p : List IdentifierValue)
        → (is_from ByDialect (filled s p) v && agrees_past_zeros s (numbers v))
        ≡ (is_ge (precedence v (filled s p)) && not (is_gt (first_numbers (leading_place s) v (filled s p))))
    exact_caret {s = s} spot p = ap (λ b. b && agrees_past_zeros s (numbers v)) (release_from (filled s p))
        ∙ past_zeros_within v spot p _ (from_first v spot p)

    -- a release isn't below zeros in the numbers that aren't stated
    past_patch : is_ge (ordering_then (nat_cmp v.patch 0) (pre_cmp v.pre [])) ≡ true
    past_patch = not_less v.patch _ (ap (λ q. is_ge (pre_cmp q [])) release)

    past_minor : is_ge (ordering_then (nat_cmp v.minor 0) (ordering_then (nat_cmp v.patch 0) (pre_cmp v.pre []))) ≡ true
    past_minor = not_less v.minor _ past_patch

    release_one : (operator : Operator) (x : ℕ) → ReleaseCell operator (x ∷ []) []
    release_one Less x = sym (not_ge _ ∙ one_below v x)
    release_one LessOrEqual x = sym (not_gt _)
    release_one Greater x = is_above v.major x _ past_minor ∙ sym (and-true _)
    release_one GreaterOrEqual x = from_numbers (x ∷ []) ∙ sym (and-true _)
    release_one Hyphen x = from_numbers (x ∷ []) ∙ sym (and-true _)
    release_one Caret x = release_caret (Spot.first_of_one x)
    release_one Tilde x = exact_block (Spot.first_of_one x) []
    release_one Bare x = release_block (Spot.first_of_one x)
    release_one Equal x = release_block (Spot.first_of_one x)

    release_two : (operator : Operator) (x y : ℕ) → ReleaseCell operator (x ∷ y ∷ []) []
    release_two Less x y = sym (not_ge _ ∙ two_below v x y)
    release_two LessOrEqual x y = sym (not_gt _)
    release_two Greater x y = is_above_after (step v.major x) _ _ (is_above v.minor y _ past_patch) ∙ sym (and-true _)
    release_two GreaterOrEqual x y = from_numbers (x ∷ y ∷ []) ∙ sym (and-true _)
    release_two Hyphen x y = from_numbers (x ∷ y ∷ []) ∙ sym (and-true _)
    release_two Caret x y = release_caret (leading_of_two x y)
    release_two Tilde x y = exact_block (Spot.second_of_two x y) []
    release_two Bare x y = release_block (Spot.second_of_two x y)
    release_two Equal x y = release_block (Spot.second_of_two x y)

    release_caret_three : (x y w : ℕ) (p : List IdentifierValue) → ReleaseCell Caret (x ∷ y ∷ w ∷ []) p
    release_caret_three x y w [] = by_test (x == 0)
        (λ z. let cell = release_caret (leading_of_three x y w) in rw z (rw z at cell))
        (λ n. let cell = exact_caret (leading_of_three x y w) [] in rw n (rw n at cell))
    release_caret_three x y w (i ∷ p) = exact_caret (leading_of_three x y w) (i ∷ p)

    release_three : (operator : Operator) (x y w : ℕ) (p : List IdentifierValue) → ReleaseCell operator (x ∷ y ∷ w ∷ []) p
    release_three Less x y w p = sym (not_ge _)
    release_three LessOrEqual x y w p = sym (not_gt _)
    release_three Greater x y w p = sym (and-true _)
    release_three GreaterOrEqual x y w p = release_from _ ∙ sym (and-true _)
    release_three Hyphen x y w [] = from_numbers (x ∷ y ∷ w ∷ []) ∙ sym (and-true _)
    release_three Hyphen x y w (i ∷ p) = release_from _ ∙ sym (and-true _)
    release_three Caret x y w p = release_caret_three x y w p
    release_three Tilde x y w p = exact_block (Spot.second_of_three x y w) p
    release_three Bare x y w p = sym (both_eq _)
    release_three Equal x y w p = sym (both_eq _)

    pub npm_release : (operator : Operator) {s : List ℕ} → Shape s → (p : List IdentifierValue) → ((length s == 3) ≡ false → p ≡ [])
        → ReleaseCell operator s p
    npm_release operator Shape.none p none = rw (none refl) (all_none operator)
    npm_release operator (Shape.one x) p none = rw (none refl) (release_one operator x)
    npm_release operator (Shape.two x y) p none = rw (none refl) (release_two operator x y)
    npm_release operator (Shape.three x y w) p none = release_three operator x y w p

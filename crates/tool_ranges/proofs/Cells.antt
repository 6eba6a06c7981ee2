-- On which side of a zero-filled version a version is, expressed by agreement and comparison with
-- the stated numbers.
use Rattle.std.proofs.Common.{◌≡◌, ℕ, Bool, true, not, ◌&&◌, ◌||◌, nat_eq, List, [], ◌∷◌}
use Rattle.std.proofs.Common.{refl, ap, ◌∙◌}
use Rattle.std.specs.Ordering.{nat_cmp, ordering_then, is_eq, is_lt, is_le, is_gt, is_ge}
use Rattle.std.specs.declared.cmp.Ordering.{Ordering}
use Rattle.std.specs.declared.cmp.Ordering.TheVariants.{Less, Equal, Greater}
use Rattle.semver_texts.specs.Precedence.{precedence}
use Rattle.semver_texts.specs.Versions.{numbers, IdentifierValue, PlainVersion}
use Rattle.semver_texts.proofs.Lists.{by_test}
use Rattle.semver_ranges.specs.CrateMeaning.{agrees, agrees_past_zeros}
use Rattle.semver_ranges.specs.Partials.{filled, leading_place}
use Rattle.semver_ranges.proofs.CaretPlaces.{same_agreement}
use Rattle.semver_ranges.proofs.Rows.{Step, step, and_step as after}
use Rattle.semver_ranges.proofs.Spots.{Spot}
use Rattle.version_sets.specs.Steps.Cuts.{first_numbers}
use Rattle.tool_ranges.specs.CargoMeaning.{against}
use Rattle.tool_ranges.proofs.NumberSteps.{not_less, is_less}

-- ---- orderings
pub not_ge : (o : Ordering) → not (is_ge o) ≡ is_lt o
not_ge Less = refl
not_ge Equal = refl
not_ge Greater = refl

pub not_gt : (o : Ordering) → not (is_gt o) ≡ is_le o
not_gt Less = refl
not_gt Equal = refl
not_gt Greater = refl

pub both_eq : (o : Ordering) → (is_ge o && not (is_gt o)) ≡ is_eq o
both_eq Less = refl
both_eq Equal = refl
both_eq Greater = refl

pub le_parts : (o : Ordering) → is_le o ≡ (is_lt o || is_eq o)
le_parts Less = refl
le_parts Equal = refl
le_parts Greater = refl

pub ge_parts : (o : Ordering) → is_ge o ≡ (is_gt o || is_eq o)
ge_parts Less = refl
ge_parts Equal = refl
ge_parts Greater = refl

-- ---- the first numbers compared with the stated ones, and then what follows them
within : {g : Ordering → Ordering} {e m : Bool} → Step g e m → (f : Bool) → (f ≡ true → is_ge (g Equal) ≡ true)
    → (f && e) ≡ (f && not (is_gt (g Equal)))
within Step.lower f h = by_test f (λ y. absurd (no_less (h y))) (λ n. rw n refl) where
  no_less : is_ge Less ≡ true → ⊥
  no_less e = cc
within Step.level f h = refl
within Step.higher f h = refl

ge_of : {g : Ordering → Ordering} {e m : Bool} → Step g e m → (o : Ordering) → is_ge (g o) ≡ true → is_ge (g Equal) ≡ true
ge_of Step.lower o h = h
ge_of Step.level o h = refl
ge_of Step.higher o h = refl

pub same_ge : {g : Ordering → Ordering} {e m : Bool} → Step g e m → (o : Ordering) → is_ge o ≡ true → is_ge (g o) ≡ is_ge (g Equal)
same_ge Step.lower o h = refl
same_ge Step.level o h = h
same_ge Step.higher o h = refl

module _ (v : PlainVersion) where
  one_step : (x : ℕ) → Step (λ o. ordering_then (nat_cmp v.major x) o) (agrees 1 (x ∷ []) v) (nat_eq v.major x && true)
  one_step x = after (step v.major x) Step.level

  two_steps : (x y : ℕ) → Step (λ o. ordering_then (nat_cmp v.major x) (ordering_then (nat_cmp v.minor y) o)) (agrees 2 (x ∷ y ∷ []) v)
      (nat_eq v.major x && (nat_eq v.minor y && true))
  two_steps x y = after (step v.major x) (after (step v.minor y) Step.level)

  three_steps : (x y w : ℕ)
      → Step (λ o. ordering_then (nat_cmp v.major x) (ordering_then (nat_cmp v.minor y) (ordering_then (nat_cmp v.patch w) o)))
      (agrees 3 (x ∷ y ∷ w ∷ []) v) (nat_eq v.major x && (nat_eq v.minor y && (nat_eq v.patch w && true)))
  three_steps x y w = after (step v.major x) (after (step v.minor y) (after (step v.patch w) Step.level))

  -- if the first `k` numbers of a version aren't below the stated ones, they agree with these if
  -- and only if they aren't above them
  pub agrees_within : {s : List ℕ} {k : ℕ} → Spot s k → (p : List IdentifierValue) → (f : Bool)
      → (f ≡ true → is_ge (first_numbers k v (filled s p)) ≡ true)
      → (f && agrees k s v) ≡ (f && not (is_gt (first_numbers k v (filled s p))))
  agrees_within (Spot.first_of_one x) p f h = within (one_step x) f h
  agrees_within (Spot.first_of_two x y) p f h = within (one_step x) f h
  agrees_within (Spot.second_of_two x y) p f h = within (two_steps x y) f h
  agrees_within (Spot.first_of_three x y w) p f h = within (one_step x) f h
  agrees_within (Spot.second_of_three x y w) p f h = within (two_steps x y) f h
  agrees_within (Spot.third_of_three x y w) p f h = within (three_steps x y w) f h

  pub past_zeros_within : {s : List ℕ} → Spot s (leading_place s) → (p : List IdentifierValue) → (f : Bool)
      → (f ≡ true → is_ge (first_numbers (leading_place s) v (filled s p)) ≡ true)
      → (f && agrees_past_zeros s (numbers v)) ≡ (f && not (is_gt (first_numbers (leading_place s) v (filled s p))))
  past_zeros_within spot p f h = ap (λ b. f && b) (same_agreement _ (numbers v)) ∙ agrees_within spot p f h

  -- if a version isn't below the zero-filled version, its first `k` numbers aren't below the stated
  -- ones
  pub from_first : {s : List ℕ} {k : ℕ} → Spot s k → (p : List IdentifierValue) → is_ge (precedence v (filled s p)) ≡ true
      → is_ge (first_numbers k v (filled s p)) ≡ true
  from_first (Spot.first_of_one x) p h = ge_of (one_step x) _ h
  from_first (Spot.first_of_two x y) p h = ge_of (one_step x) _ h
  from_first (Spot.second_of_two x y) p h = ge_of (two_steps x y) _ h
  from_first (Spot.first_of_three x y w) p h = ge_of (one_step x) _ h
  from_first (Spot.second_of_three x y w) p h = ge_of (two_steps x y) _ h
  from_first (Spot.third_of_three x y w) p h = ge_of (three_steps x y w) _ h

  pub numbers_first : {s : List ℕ} {k : ℕ} → Spot s k → (p : List IdentifierValue) → is_ge (first_numbers 3 v (filled s p)) ≡ true
      → is_ge (first_numbers k v (filled s p)) ≡ true
  numbers_first (Spot.first_of_one x) p h = ge_of (one_step x) _ h
  numbers_first (Spot.first_of_two x y) p h = ge_of (one_step x) _ h
  numbers_first (Spot.second_of_two x y) p h = ge_of (two_steps x y) _ h
  numbers_first (Spot.first_of_three x y w) p h = ge_of (one_step x) _ h
  numbers_first (Spot.second_of_three x y w) p h = ge_of (two_steps x y) _ h
  numbers_first (Spot.third_of_three x y w) p h = h

  -- numbers that aren't stated are zeros in the zero-filled version, so they can be left out of a
  -- comparison for `>=` or `<`
  patch_ge : is_ge (ordering_then (nat_cmp v.patch 0) Equal) ≡ true
  patch_ge = not_less v.patch Equal refl

  minor_ge : is_ge (ordering_then (nat_cmp v.minor 0) (ordering_then (nat_cmp v.patch 0) Equal)) ≡ true
  minor_ge = not_less v.minor _ patch_ge

  pub one_from : (x : ℕ) → is_ge (first_numbers 3 v (filled (x ∷ []) [])) ≡ is_ge (against (x ∷ []) v)
  one_from x = same_ge (step v.major x) _ minor_ge

  pub two_from : (x y : ℕ) → is_ge (first_numbers 3 v (filled (x ∷ y ∷ []) [])) ≡ is_ge (against (x ∷ y ∷ []) v)
  two_from x y = same_ge (after (step v.major x) (step v.minor y)) _ patch_ge

  pub one_below : (x : ℕ) → is_lt (first_numbers 3 v (filled (x ∷ []) [])) ≡ is_lt (against (x ∷ []) v)
  one_below x = is_less (step v.major x) _ minor_ge

  pub two_below : (x y : ℕ) → is_lt (first_numbers 3 v (filled (x ∷ y ∷ []) [])) ≡ is_lt (against (x ∷ y ∷ []) v)
  two_below x y = is_less (after (step v.major x) (step v.minor y)) _ patch_ge

  pub none_from : is_ge (first_numbers 3 v (filled [] [])) ≡ true
  none_from = not_less v.major _ minor_ge

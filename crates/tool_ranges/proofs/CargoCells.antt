-- The versions that satisfy a term in Cargo's or the crate's dialects are those between the sides
-- in the dialect's table.
use Rattle.std.proofs.Common.{◌≡◌, ℕ, Bool, true, false, not, ◌&&◌, ◌||◌, ◌==◌, List, [], ◌∷◌, length}
use Rattle.std.proofs.Common.{refl, sym, ap, ◌∙◌, rules}
use Rattle.std.proofs.Math.Bool.{and-true, and-false, or-false}
use Rattle.std.specs.Ordering.{is_eq, is_lt, is_gt, is_ge}
use Rattle.semver_texts.specs.Precedence.{precedence}
use Rattle.semver_texts.specs.Texts.{is_empty}
use Rattle.semver_texts.specs.Versions.{numbers, IdentifierValue, PlainVersion}
use Rattle.semver_ranges.specs.declared.range.Compat.{Compat}
use Rattle.semver_ranges.specs.declared.range.Compat.TheVariants as mode
use Rattle.semver_ranges.specs.declared.operator.Operator.{Operator}
use Rattle.semver_ranges.specs.declared.operator.Operator.TheVariants.{Bare, Equal, Less, LessOrEqual, Greater, GreaterOrEqual, Tilde}
use Rattle.semver_ranges.specs.declared.operator.Operator.TheVariants.{Caret, Hyphen}
use Rattle.semver_ranges.specs.CrateMeaning.{agrees, agrees_past_zeros, meets_operator, meets_stated}
use Rattle.semver_ranges.specs.Partials.{filled, leading_place}
use Rattle.semver_ranges.proofs.Rows.{Shape}
use Rattle.version_sets.specs.Steps.Cuts.{first_numbers}
use Rattle.version_sets.specs.declared.rules.PreReleases.TheVariants.{ByDialect, Included}
use Rattle.tool_ranges.specs.CargoMeaning.{against}
use Rattle.tool_ranges.specs.CargoMeaning.{meets_by_count}
use Rattle.tool_ranges.specs.Steps.Table.{is_within, is_counted_within}
use Rattle.semver_ranges.specs.declared.dialect.Dialect.{Dialect}
use Rattle.semver_ranges.specs.declared.dialect.Dialect.TheVariants.{Cargo, CrateCargo, CrateNpm}
use Rattle.semver_ranges.proofs.Spots.{Spot, leading_of_two, leading_of_three}
use Rattle.tool_ranges.proofs.Cells.{agrees_within, past_zeros_within, from_first, numbers_first}
use Rattle.tool_ranges.proofs.Cells.{not_ge, not_gt, both_eq, le_parts, ge_parts, one_from, two_from, one_below, two_below, none_from}

both_no : (b : Bool) → (b && not b) ≡ false
both_no true = refl
both_no false = refl

module _ (v : PlainVersion) where
  -- ---- bounds that begin at the zero-filled version
  exact_block : {s : List ℕ} {k : ℕ} → Spot s k → (p : List IdentifierValue) → (is_ge (precedence v (filled s p)) && agrees k s v)
      ≡ (is_ge (precedence v (filled s p)) && not (is_gt (first_numbers k v (filled s p))))
  exact_block spot p = agrees_within v spot p _ (from_first v spot p)

  exact_caret : {s : List ℕ} → Spot s (leading_place s) → (p : List IdentifierValue)
      → (is_ge (precedence v (filled s p)) && agrees_past_zeros s (numbers v))
      ≡ (is_ge (precedence v (filled s p)) && not (is_gt (first_numbers (leading_place s) v (filled s p))))
  exact_caret spot p = past_zeros_within v spot p _ (from_first v spot p)

  -- ---- three stated numbers, in the crate's dialects
  three_cargo : (operator : Operator) (x y w : ℕ) (p : List IdentifierValue)
      → meets_operator mode.Cargo operator (x ∷ y ∷ w ∷ []) (filled (x ∷ y ∷ w ∷ []) p) v
      ≡ is_within CrateCargo operator (x ∷ y ∷ w ∷ []) (filled (x ∷ y ∷ w ∷ []) p) v
  three_cargo Less x y w p = sym (not_ge _)
  three_cargo LessOrEqual x y w p = sym (not_gt _)
  three_cargo Greater x y w p = sym (and-true _)
  three_cargo GreaterOrEqual x y w p = sym (and-true _)
  three_cargo Hyphen x y w p = sym (and-true _)
  three_cargo Tilde x y w p = exact_block (Spot.second_of_three x y w) p
  three_cargo Caret x y w p = exact_caret (leading_of_three x y w) p
  three_cargo Bare x y w p = exact_caret (leading_of_three x y w) p
  three_cargo Equal x y w p = sym (both_eq _)

  three_npm : (operator : Operator) (x y w : ℕ) (p : List IdentifierValue)
      → meets_operator mode.Npm operator (x ∷ y ∷ w ∷ []) (filled (x ∷ y ∷ w ∷ []) p) v
      ≡ is_within CrateNpm operator (x ∷ y ∷ w ∷ []) (filled (x ∷ y ∷ w ∷ []) p) v
  three_npm Less x y w p = sym (not_ge _)
  three_npm LessOrEqual x y w p = sym (not_gt _)
  three_npm Greater x y w p = sym (and-true _)
  three_npm GreaterOrEqual x y w p = sym (and-true _)
  three_npm Hyphen x y w p = sym (and-true _)
  three_npm Tilde x y w p = exact_block (Spot.second_of_three x y w) p
  three_npm Caret x y w p = exact_caret (leading_of_three x y w) p
  three_npm Bare x y w p = sym (both_eq _)
  three_npm Equal x y w p = sym (both_eq _)

  -- ---- fewer stated numbers, in the crate's dialects
  abbrev OwnCell : Compat → Dialect → Operator → List ℕ → List IdentifierValue → Type 0
  OwnCell compat dialect operator s p = meets_stated compat operator s (filled s p) v ≡ is_within dialect operator s (filled s p) v

  own_none : (operator : Operator) → OwnCell mode.Cargo CrateCargo operator [] [] × OwnCell mode.Npm CrateNpm operator [] []
  own_none Less = (sym (not_ge _), sym (not_ge _))
  own_none Greater = (sym (not_ge _), sym (not_ge _))
  own_none _ = (sym (and-true _), sym (and-true _))

  own_one : (operator : Operator) (x : ℕ) → OwnCell mode.Cargo CrateCargo operator (x ∷ []) [] × OwnCell mode.Npm CrateNpm operator (x ∷ []) []
  own_one Less x = (sym (not_ge _), sym (not_ge _))
  own_one LessOrEqual x = (sym (not_gt _), sym (not_gt _))
  own_one Greater x = (sym (and-true _), sym (and-true _))
  own_one GreaterOrEqual x = (sym (and-true _), sym (and-true _))
  own_one Hyphen x = (sym (and-true _), sym (and-true _))
  own_one Tilde x = (exact_block (Spot.first_of_one x) [], exact_block (Spot.first_of_one x) [])
  own_one Caret x = (exact_caret (Spot.first_of_one x) [], exact_caret (Spot.first_of_one x) [])
  own_one Bare x = (exact_block (Spot.first_of_one x) [], exact_block (Spot.first_of_one x) [])
  own_one Equal x = (exact_block (Spot.first_of_one x) [], exact_block (Spot.first_of_one x) [])

  own_two : (operator : Operator) (x y : ℕ) → OwnCell mode.Cargo CrateCargo operator (x ∷ y ∷ []) [] × OwnCell mode.Npm CrateNpm operator (x ∷ y ∷ []) []
  own_two Less x y = (sym (not_ge _), sym (not_ge _))
  own_two LessOrEqual x y = (sym (not_gt _), sym (not_gt _))
  own_two Greater x y = (sym (and-true _), sym (and-true _))
  own_two GreaterOrEqual x y = (sym (and-true _), sym (and-true _))
  own_two Hyphen x y = (sym (and-true _), sym (and-true _))
  own_two Tilde x y = (exact_block (Spot.second_of_two x y) [], exact_block (Spot.second_of_two x y) [])
  own_two Caret x y = (exact_caret (leading_of_two x y) [], exact_caret (leading_of_two x y) [])
  own_two Bare x y = (exact_block (Spot.second_of_two x y) [], exact_block (Spot.second_of_two x y) [])
  own_two Equal x y = (exact_block (Spot.second_of_two x y) [], exact_block (Spot.second_of_two x y) [])

  pub own_within : (operator : Operator) {s : List ℕ} → Shape s → (p : List IdentifierValue) → ((length s == 3) ≡ false → p ≡ [])
      → OwnCell mode.Cargo CrateCargo operator s p × OwnCell mode.Npm CrateNpm operator s p
  own_within operator Shape.none p none = rw (none refl) (own_none operator)
  own_within operator (Shape.one x) p none = rw (none refl) (own_one operator x)
  own_within operator (Shape.two x y) p none = rw (none refl) (own_two operator x y)
  own_within operator (Shape.three x y w) p none = (three_cargo operator x y w p, three_npm operator x y w p)

  -- ---- Cargo's dialect, with every pre-release within the bounds
  abbrev AllCell : Operator → List ℕ → List IdentifierValue → Type 0
  AllCell operator s p = meets_by_count Included operator s (filled s p) v ≡ is_within Cargo operator s (filled s p) v

  at_most_all : (s : List ℕ) → (is_lt (against s v) || (is_eq (against s v) && true)) ≡ not (is_gt (against s v))
  at_most_all s = ap (λ b. is_lt (against s v) || b) (and-true _) ∙ sym (not_gt _ ∙ le_parts _)

  at_least_all : (s : List ℕ) (f : Bool) → f ≡ is_ge (against s v) → (is_gt (against s v) || (is_eq (against s v) && true)) ≡ (f && true)
  at_least_all s f e = ap (λ b. is_gt (against s v) || b) (and-true _) ∙ sym (and-true f ∙ e ∙ ge_parts _)

  equal_all : (s : List ℕ) (f : Bool) → f ≡ is_ge (against s v) → (is_eq (against s v) && true) ≡ (f && not (is_gt (against s v)))
  equal_all s f e = and-true _ ∙ sym (ap (λ b. b && not (is_gt (against s v))) e ∙ both_eq _)

  caret_one : (x : ℕ) → (is_ge (against (x ∷ []) v) && agrees_past_zeros (x ∷ []) (numbers v))
      ≡ (is_ge (first_numbers 3 v (filled (x ∷ []) [])) && not (is_gt (first_numbers 1 v (filled (x ∷ []) []))))
  caret_one x = ap (λ b. b && agrees_past_zeros (x ∷ []) (numbers v)) (sym (one_from v x))
      ∙ past_zeros_within v (Spot.first_of_one x) [] _ (numbers_first v (Spot.first_of_one x) [])

  caret_two : (x y : ℕ) → (is_ge (against (x ∷ y ∷ []) v) && agrees_past_zeros (x ∷ y ∷ []) (numbers v))
      ≡ (is_ge (first_numbers 3 v (filled (x ∷ y ∷ []) []))
      && not (is_gt (first_numbers (leading_place (x ∷ y ∷ [])) v (filled (x ∷ y ∷ []) []))))
  caret_two x y = ap (λ b. b && agrees_past_zeros (x ∷ y ∷ []) (numbers v)) (sym (two_from v x y))
      ∙ past_zeros_within v (leading_of_two x y) [] _ (numbers_first v (leading_of_two x y) [])

  all_one : (operator : Operator) (x : ℕ) → AllCell operator (x ∷ []) []
  all_one Less x = sym (not_ge _)
  all_one LessOrEqual x = at_most_all (x ∷ [])
  all_one Greater x = sym (and-true _)
  all_one GreaterOrEqual x = at_least_all (x ∷ []) _ (one_from v x)
  all_one Hyphen x = at_least_all (x ∷ []) _ (one_from v x)
  all_one Caret x = caret_one x
  all_one Tilde x = equal_all (x ∷ []) _ (one_from v x)
  all_one Bare x = equal_all (x ∷ []) _ (one_from v x)
  all_one Equal x = equal_all (x ∷ []) _ (one_from v x)

  all_two : (operator : Operator) (x y : ℕ) → AllCell operator (x ∷ y ∷ []) []
  all_two Less x y = sym (not_ge _)
  all_two LessOrEqual x y = at_most_all (x ∷ y ∷ [])
  all_two Greater x y = sym (and-true _)
  all_two GreaterOrEqual x y = at_least_all (x ∷ y ∷ []) _ (two_from v x y)
  all_two Hyphen x y = at_least_all (x ∷ y ∷ []) _ (two_from v x y)
  all_two Caret x y = caret_two x y
  all_two Tilde x y = equal_all (x ∷ y ∷ []) _ (two_from v x y)
  all_two Bare x y = equal_all (x ∷ y ∷ []) _ (two_from v x y)
  all_two Equal x y = equal_all (x ∷ y ∷ []) _ (two_from v x y)

  three_as : (operator : Operator) (x y w : ℕ) (p : List IdentifierValue)
      → is_within CrateCargo operator (x ∷ y ∷ w ∷ []) (filled (x ∷ y ∷ w ∷ []) p) v
      ≡ is_within Cargo operator (x ∷ y ∷ w ∷ []) (filled (x ∷ y ∷ w ∷ []) p) v
  three_as Greater x y w p = refl
  three_as Less x y w p = refl
  three_as _ x y w p = refl

  pub cargo_all : (operator : Operator) {s : List ℕ} → Shape s → (p : List IdentifierValue) → ((length s == 3) ≡ false → p ≡ [])
      → AllCell operator s p
  cargo_all operator Shape.none p none = sym (and-true _ ∙ none_from v)
  cargo_all operator (Shape.one x) p none = rw (none refl) (all_one operator x)
  cargo_all operator (Shape.two x y) p none = rw (none refl) (all_two operator x y)
  cargo_all operator (Shape.three x y w) p none = three_cargo operator x y w p ∙ three_as operator x y w p

  -- ---- Cargo's dialect by default, for releases
  module _ (release : v.pre ≡ []) where
    abbrev ReleaseCell : Operator → List ℕ → List IdentifierValue → Type 0
    ReleaseCell operator s p = meets_by_count ByDialect operator s (filled s p) v ≡ is_within Cargo operator s (filled s p) v

    is_release : is_empty v.pre ≡ true
    is_release = ap is_empty release

    numbers_from : (z : PlainVersion) → z.pre ≡ [] → is_ge (precedence v z) ≡ is_ge (first_numbers 3 v z)
    numbers_from z none = search rules

    release_one : (operator : Operator) (x : ℕ) → ReleaseCell operator (x ∷ []) []
    release_one Less x = sym (ap not (numbers_from (filled (x ∷ []) []) refl) ∙ not_ge _ ∙ one_below v x)
    release_one LessOrEqual x = rw is_release (at_most_all (x ∷ []))
    release_one Greater x = sym (and-true _)
    release_one GreaterOrEqual x = rw is_release (at_least_all (x ∷ []) _ (one_from v x))
    release_one Hyphen x = rw is_release (at_least_all (x ∷ []) _ (one_from v x))
    release_one Caret x = caret_one x
    release_one Tilde x = rw is_release (equal_all (x ∷ []) _ (one_from v x))
    release_one Bare x = rw is_release (equal_all (x ∷ []) _ (one_from v x))
    release_one Equal x = rw is_release (equal_all (x ∷ []) _ (one_from v x))

    release_two : (operator : Operator) (x y : ℕ) → ReleaseCell operator (x ∷ y ∷ []) []
    release_two Less x y = sym (ap not (numbers_from (filled (x ∷ y ∷ []) []) refl) ∙ not_ge _ ∙ two_below v x y)
    release_two LessOrEqual x y = rw is_release (at_most_all (x ∷ y ∷ []))
    release_two Greater x y = sym (and-true _)
    release_two GreaterOrEqual x y = rw is_release (at_least_all (x ∷ y ∷ []) _ (two_from v x y))
    release_two Hyphen x y = rw is_release (at_least_all (x ∷ y ∷ []) _ (two_from v x y))
    release_two Caret x y = caret_two x y
    release_two Tilde x y = rw is_release (equal_all (x ∷ y ∷ []) _ (two_from v x y))
    release_two Bare x y = rw is_release (equal_all (x ∷ y ∷ []) _ (two_from v x y))
    release_two Equal x y = rw is_release (equal_all (x ∷ y ∷ []) _ (two_from v x y))

    pub cargo_release : (operator : Operator) {s : List ℕ} → Shape s → (p : List IdentifierValue) → ((length s == 3) ≡ false → p ≡ [])
        → ReleaseCell operator s p
    cargo_release operator Shape.none p none = is_release ∙ sym (and-true _ ∙ none_from v)
    cargo_release operator (Shape.one x) p none = rw (none refl) (release_one operator x)
    cargo_release operator (Shape.two x y) p none = rw (none refl) (release_two operator x y)
    cargo_release operator (Shape.three x y w) p none = three_cargo operator x y w p ∙ three_as operator x y w p

  -- ---- Cargo's dialect by default, for pre-releases
  module _ (pre_release : is_empty v.pre ≡ false) where
    abbrev CountedCell : Operator → List ℕ → List IdentifierValue → Type 0
    CountedCell operator s p = meets_by_count ByDialect operator s (filled s p) v ≡ is_counted_within Cargo operator s (filled s p) v

    none_of : (b f : Bool) → (b && is_empty v.pre) ≡ (f && not f)
    none_of b f = ap (λ c. b && c) pre_release ∙ and-false b ∙ sym (both_no f)

    or_none : (a b : Bool) → (a || (b && is_empty v.pre)) ≡ a
    or_none a b = ap (λ c. a || (b && c)) pre_release ∙ ap (λ c. a || c) (and-false b) ∙ or-false a

    counted_one : (operator : Operator) (x : ℕ) → CountedCell operator (x ∷ []) []
    counted_one Less x = sym (not_ge _ ∙ one_below v x)
    counted_one LessOrEqual x = or_none _ _ ∙ sym (not_ge _ ∙ one_below v x)
    counted_one Greater x = sym (and-true _)
    counted_one GreaterOrEqual x = or_none _ _ ∙ sym (and-true _)
    counted_one Hyphen x = or_none _ _ ∙ sym (and-true _)
    counted_one Caret x = caret_one x
    counted_one Tilde x = none_of _ _
    counted_one Bare x = none_of _ _
    counted_one Equal x = none_of _ _

    counted_two : (operator : Operator) (x y : ℕ) → CountedCell operator (x ∷ y ∷ []) []
    counted_two Less x y = sym (not_ge _ ∙ two_below v x y)
    counted_two LessOrEqual x y = or_none _ _ ∙ sym (not_ge _ ∙ two_below v x y)
    counted_two Greater x y = sym (and-true _)
    counted_two GreaterOrEqual x y = or_none _ _ ∙ sym (and-true _)
    counted_two Hyphen x y = or_none _ _ ∙ sym (and-true _)
    counted_two Caret x y = caret_two x y
    counted_two Tilde x y = none_of _ _
    counted_two Bare x y = none_of _ _
    counted_two Equal x y = none_of _ _

    pub cargo_counted : (operator : Operator) {s : List ℕ} → Shape s → (p : List IdentifierValue) → ((length s == 3) ≡ false → p ≡ [])
        → CountedCell operator s p
    cargo_counted operator Shape.none p none = pre_release ∙ sym (both_no _)
    cargo_counted operator (Shape.one x) p none = rw (none refl) (counted_one operator x)
    cargo_counted operator (Shape.two x y) p none = rw (none refl) (counted_two operator x y)
    cargo_counted operator (Shape.three x y w) p none = three_cargo operator x y w p ∙ three_as operator x y w p

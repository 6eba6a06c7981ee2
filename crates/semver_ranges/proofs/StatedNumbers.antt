-- The numbers and the pre-release that a partial version states, from its components.
use Rattle.std.proofs.Common.{arith}
use Rattle.std.proofs.Common.{◌≡◌, ℕ, Bool, true, ◌&&◌, ◌==◌, List, [], ◌∷◌, length, map, refl, Option, Some, None}
use Rattle.std.specs.Option.{is_some, unwrap_or}
use Rattle.std.specs.List.{list_all}
use Rattle.std.proofs.lemmas.Bool.{eqb-true}
use Rattle.semver_ranges.specs.declared.partial.Component.{Component}
use Rattle.semver_ranges.specs.declared.partial.Component.TheVariants.{Wildcard, Number}
use Rattle.semver_ranges.specs.declared.partial.Partial.{Partial}
use Rattle.semver_ranges.specs.declared.partial.PartialKind.{PartialKind}
use Rattle.semver_ranges.specs.declared.partial.PartialKind.TheVariants.{XRangeOnly}
use Rattle.semver_ranges.specs.RangeTree.{PartialTree, one, two, three}
use Rattle.semver_texts.specs.Texts.{Text, is_empty}
use Rattle.semver_texts.specs.Versions.{IdentifierValue, PlainVersion}
use Rattle.semver_ranges.specs.Partials.{stated, states_nothing, fits_u64, kept, filled, pre_parts, zero_filled}
use Rattle.semver_ranges.specs.Steps.PartialViews.{stated_at, states_none}
use Rattle.semver_ranges.specs.Steps.PartialViews.{IsPartialOf, AreComponentsOf}
use Rattle.semver_texts.specs.Texts.{cut_at_dots}
use Rattle.semver_texts.proofs.Lists.{by_test}

-- the stated numbers fit if and only if `fit` is true, and then `numbers` are these numbers, and v
-- is the zero-filled version
abbrev States : Bool → List ℕ → PlainVersion → List ℕ → PlainVersion → Type 0
States fit numbers v stated filled = (list_all fits_u64 stated ≡ fit) × (fit ≡ true → (numbers ≡ stated) × (v ≡ filled))

abbrev version : ℕ → ℕ → ℕ → List IdentifierValue → PlainVersion
version x y z pre = record { major = x; minor = y; patch = z; pre = pre }

-- a component is missing, or it is a wildcard
abbrev pub NoNumber : Option Component → Type 0
NoNumber None = Unit {0}
NoNumber (Some (Wildcard b)) = Unit {0}
NoNumber (Some (Number n)) = ⊥

-- a partial version that states one, two or three numbers
pub states_one : (t : PartialTree) (x : Option ℕ) (minor patch : Option Component) → AreComponentsOf t (Number x) minor patch → NoNumber minor
    → States (is_some x) (unwrap_or x 0 ∷ []) (version (unwrap_or x 0) 0 0 []) (stated t) (zero_filled t)
states_one (one a) x minor patch is none = grind arith
states_one (two a b) x None patch is none = absurd is.1
states_one (two a b) x (Some (Wildcard y)) patch is none = rw (is.0.0, is.1.0) (grind arith)
states_one (two a b) x (Some (Number n)) patch is none = absurd none
states_one (three a b c parts build) x None patch is none = absurd is.1
states_one (three a b c parts build) x (Some (Wildcard y)) patch is none = rw (is.0.0, is.1.0) (grind arith)
states_one (three a b c parts build) x (Some (Number n)) patch is none = absurd none

pub states_two : (t : PartialTree) (x y : Option ℕ) (patch : Option Component) → AreComponentsOf t (Number x) (Some (Number y)) patch → NoNumber patch
    → States (is_some x && is_some y) (unwrap_or x 0 ∷ unwrap_or y 0 ∷ []) (version (unwrap_or x 0) (unwrap_or y 0) 0 [])
    (stated t) (zero_filled t)
states_two (one a) x y patch is none = cc is.1
states_two (two a b) x y patch is none = rw (is.0.0, is.1.0) (grind arith)
states_two (three a b c parts build) x y None is none = absurd is.2
states_two (three a b c parts build) x y (Some (Wildcard z)) is none = rw (is.0.0, is.1.0, is.2.0) (grind arith)
states_two (three a b c parts build) x y (Some (Number n)) is none = absurd none

pub states_three : (t : PartialTree) (x y z : Option ℕ) (pre : Text) → AreComponentsOf t (Number x) (Some (Number y)) (Some (Number z))
    → pre_parts t ≡ cut_at_dots pre → States ((is_some x && is_some y) && is_some z) (unwrap_or x 0 ∷ unwrap_or y 0 ∷ unwrap_or z 0 ∷ [])
    (version (unwrap_or x 0) (unwrap_or y 0) (unwrap_or z 0) (map kept (cut_at_dots pre))) (stated t) (zero_filled t)
states_three (one a) x y z pre is e = cc is.1
states_three (two a b) x y z pre is e = cc is.2
states_three (three a b c parts build) x y z pre is e = rw (is.0.0, is.1.0, is.2.0, e) (grind arith)

-- an empty pre-release has no identifiers
pub none_kept : (pre : Text) → (length pre == 0) ≡ true → map kept (cut_at_dots pre) ≡ []
none_kept [] e = refl
none_kept (b ∷ pre) e = absurd (omega (arith, eqb-true (length (b ∷ pre)) 0 e))

-- a partial version states no number if and only if its kind says so
by_kind : (kind : PartialKind) (a b c : ℕ) → is_empty (stated_at kind a b c) ≡ states_none kind
by_kind XRangeOnly a b c = refl
by_kind _ a b c = refl

pub states_kind : (t : PartialTree) (p : Partial) → IsPartialOf t p → states_nothing t ≡ states_none p.kind
states_kind t p (fits, values, none, parts) = by_test p.fits
    (λ y. rw (← (values y).0) (by_kind p.kind p.major p.minor p.patch))
    (λ n. grind arith)

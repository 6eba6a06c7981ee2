-- A means of proof, cited only in clauses of calls between these crates: how contracts see
-- components and partial versions.
use Rattle.std.specs.Prelude.{◌≡◌, ℕ, Bool, true, false, Option, Some, None, List, [], ◌∷◌, map}
use Rattle.std.specs.List.{list_all}
use Rattle.std.specs.Str.Parse.{digits_value}
use Rattle.semver_ranges.specs.declared.partial.Component.{Component}
use Rattle.semver_ranges.specs.declared.partial.Component.TheVariants.{Wildcard, Number}
use Rattle.semver_ranges.specs.declared.partial.Components.{Components}
use Rattle.semver_ranges.specs.declared.partial.Partial.{Partial}
use Rattle.semver_ranges.specs.declared.partial.PartialKind.{PartialKind}
use Rattle.semver_ranges.specs.declared.partial.PartialKind.TheVariants.{XRangeOnly, MajorOnly}
use Rattle.semver_ranges.specs.declared.partial.PartialKind.TheVariants.{MajorMinor}
use Rattle.semver_ranges.specs.declared.partial.PartialKind.TheVariants.{MajorMinorPatch}
use Rattle.semver_ranges.specs.declared.partial.Place.{Place}
use Rattle.semver_ranges.specs.declared.partial.Place.TheVariants.{Major, Minor, Patch}
use Rattle.semver_ranges.specs.RangeTree.{PartialTree, one, two, three, is_wildcard}
use Rattle.semver_ranges.specs.RangeTree.{build_parts, pre_parts}
use Rattle.semver_ranges.specs.Sides.{SideValue, below, at, past, above}
use Rattle.semver_ranges.specs.declared.table.Side.{Side}
use Rattle.semver_ranges.specs.declared.table.Side.TheVariants.{Below, At, Past, Above}
use Rattle.semver_texts.specs.Texts.{is_part}
use Rattle.semver_texts.specs.Texts.{Text, cut_at_dots}
use Rattle.semver_texts.specs.Versions.{PlainVersion}
use Rattle.semver_ranges.specs.Partials.{fits_u64, kept, stated, zero_filled}

-- the stated numbers
abbrev pub stated_at : PartialKind → ℕ → ℕ → ℕ → List ℕ
stated_at XRangeOnly a b c = []
stated_at MajorOnly a b c = a ∷ []
stated_at MajorMinor a b c = a ∷ b ∷ []
stated_at MajorMinorPatch a b c = a ∷ b ∷ c ∷ []

abbrev pub stated_of : Partial → List ℕ
stated_of p = stated_at p.kind p.major p.minor p.patch

-- the zero-filled version
abbrev pub version_of : Partial → PlainVersion
version_of p =
    record {
      major = p.major;
      minor = p.minor;
      patch = p.patch;
      pre = map kept (cut_at_dots p.pre.now);
    }

-- the position of a number, counted from 1
abbrev pub place_number : Place → ℕ
place_number Major = 1
place_number Minor = 2
place_number Patch = 3

-- the side that the code's table gives
abbrev pub side_value : Side → SideValue
side_value Below = below
side_value At = at
side_value Past = past
side_value (Above place) = above (place_number place)

-- the number at a position
abbrev pub number_at : Place → Partial → ℕ
number_at Major p = p.major
number_at Minor p = p.minor
number_at Patch p = p.patch

-- the version with three numbers and without a pre-release
abbrev pub of_numbers : ℕ × ℕ × ℕ → PlainVersion
of_numbers ns = record { major = ns.0; minor = ns.1; patch = ns.2; pre = [] }

-- the value of a number, or `None` if it is above 2^64 - 1
abbrev pub IsValue : ℕ → Option ℕ → Type 0
IsValue n None = fits_u64 n ≡ false
IsValue n (Some v) = (fits_u64 n ≡ true) × (v ≡ n)

-- the component of this text: a wildcard, which is one byte, or a number with this value
abbrev pub IsComponentOf : Text → Component → Type 0
IsComponentOf t (Wildcard b) = (is_wildcard t ≡ true) × (t ≡ b ∷ [])
IsComponentOf t (Number value) = (is_wildcard t ≡ false) × IsValue (digits_value 10 t) value

-- whether a kind states no number
abbrev pub states_none : PartialKind → Bool
states_none XRangeOnly = true
states_none _ = false

-- each part of the pre-release is one or more letters, digits or hyphens
abbrev pub PartsPass : Partial → Type 0
PartsPass p = list_all is_part (cut_at_dots p.pre.now) ≡ true

-- what is kept of a partial version. It fits if and only if all its stated numbers do. If it fits,
-- its stated numbers and its zero-filled version are kept. If it doesn't, it states at least one
-- number
abbrev pub IsPartialOf : PartialTree → Partial → Type 0
IsPartialOf t p =
    (list_all fits_u64 (stated t) ≡ p.fits)
    × (p.fits ≡ true → (stated_of p ≡ stated t) × (version_of p ≡ zero_filled t))
    × (p.fits ≡ false → states_none p.kind ≡ false) × PartsPass p

-- a component that may be missing is there, and is that of this text
abbrev pub IsWrittenAs : Text → Option Component → Type 0
IsWrittenAs t None = ⊥
IsWrittenAs t (Some c) = IsComponentOf t c

-- the components of a partial version
abbrev pub AreComponentsOf : PartialTree → Component → Option Component → Option Component
    → Type 0
AreComponentsOf (one a) major minor patch =
    IsComponentOf a major × (minor ≡ None) × (patch ≡ None)
AreComponentsOf (two a b) major minor patch =
    IsComponentOf a major × IsWrittenAs b minor × (patch ≡ None)
AreComponentsOf (three a b c pre build) major minor patch =
    IsComponentOf a major × IsWrittenAs b minor × IsWrittenAs c patch

-- the components as they are written, and the bytes of the pre-release and of the build metadata
pub record AreWritten (t : PartialTree) (c : Components) : Type 0 where
  pub components : AreComponentsOf t c.major c.minor c.patch
  pub pre : pre_parts t ≡ cut_at_dots c.pre.now
  pub build : build_parts t ≡ cut_at_dots c.build.now
  pub parts : list_all is_part (cut_at_dots c.pre.now) ≡ true

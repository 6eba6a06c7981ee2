-- A means of proof: the first version of a kind, with numbers within a limit, that is at or above a
-- boundary, and the first that is inside some boundaries.
use Rattle.std.specs.Prelude.{◌≡◌, ◌≢◌, ℕ, Bool, true, false, Option, Some, None, List}
use Rattle.std.specs.Prelude.{if◌then◌else◌}
use Rattle.std.specs.Ordering.{is_eq, is_ge}
use Rattle.std.specs.declared.cmp.Ordering.TheVariants.{Less}
use Rattle.semver_texts.specs.Precedence.{precedence}
use Rattle.semver_texts.specs.Texts.{is_empty}
use Rattle.semver_texts.specs.Versions.{PlainVersion}
use Rattle.version_sets.specs.Boundaries.{is_inside}
use Rattle.version_sets.specs.Releases.{release_value}
use Rattle.version_sets.specs.VersionSets.{IsWithin}
use Rattle.version_sets.specs.Steps.Numbers.{lowest_place, numbers_cmp}
use Rattle.version_sets.specs.declared.release.Release.{Release}
use Rattle.version_sets.specs.declared.within.First.{First}

-- the versions of a kind whose numbers are at most `most`
abbrev pub IsOfKindWithin : Bool → ℕ → PlainVersion → Type 0
IsOfKindWithin are_releases most v = IsWithin most v × (is_empty v.pre ≡ are_releases)

-- the lowest version of a kind with the numbers of a release
abbrev pub lowest_of_kind : Bool → Release → PlainVersion
lowest_of_kind true r = release_value r
lowest_of_kind false r = lowest_place r

-- a boundary if it has some numbers, and otherwise the lowest version of its kind with these
abbrev pub first_place : Bool → PlainVersion → Release → PlainVersion
first_place are_releases b r =
    if is_eq (numbers_cmp (release_value r) b) then b else lowest_of_kind are_releases r

-- the version of a `First`
abbrev pub first_value : Bool → {T : Type 0} → (T → PlainVersion) → First T → PlainVersion
first_value are_releases place first =
    first_place are_releases (place first.boundary.now) first.numbers

-- the lowest numbers within the limit that are at or above those of b, if there are any
abbrev pub AreFirstNumbers : ℕ → PlainVersion → Option Release → Type 0
AreFirstNumbers most b None = (v : PlainVersion) → IsWithin most v → numbers_cmp v b ≡ Less
AreFirstNumbers most b (Some r) = IsWithin most (release_value r)
    × (is_ge (numbers_cmp (release_value r) b) ≡ true)
    × ((v : PlainVersion) → IsWithin most v → numbers_cmp v (release_value r) ≡ Less
    → numbers_cmp v b ≡ Less)

-- the lowest version with P that is at or above b, if there is one
abbrev pub IsFirstFrom : (PlainVersion → Type 0) → PlainVersion → Option PlainVersion → Type 0
IsFirstFrom P b None = (v : PlainVersion) → P v → precedence v b ≡ Less
IsFirstFrom P b (Some c) = P c × (is_ge (precedence c b) ≡ true)
    × ((v : PlainVersion) → P v → precedence v c ≡ Less → precedence v b ≡ Less)

-- the lowest version with P that is inside the boundaries, if there is one
abbrev pub IsFirstInside : (PlainVersion → Type 0) → List PlainVersion → Option PlainVersion
    → Type 0
IsFirstInside P boundaries None =
    (v : PlainVersion) → P v → is_inside precedence boundaries v ≡ false
IsFirstInside P boundaries (Some c) = P c × (is_inside precedence boundaries c ≡ true)
    × ((v : PlainVersion) → P v → is_inside precedence boundaries v ≡ true
    → precedence v c ≢ Less)

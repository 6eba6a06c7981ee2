-- Sets of versions, which are given by their boundaries, and which versions are in a set.
use Rattle.std.specs.Prelude.{◌≡◌, ◌≢◌, ℕ, ◌^◌, ◌<◌, ◌≤◌, ◌&&◌, Bool, true, false, IsTrue}
use Rattle.std.specs.Prelude.{if◌then◌else◌, List}
use Rattle.std.specs.List.{AllByRecursion}
use Rattle.std.specs.Ordering.{eq_by_cmp}
use Rattle.std.specs.Cmp.Lexicographic.{pointwise}
use Rattle.std.specs.declared.cmp.Ordering.TheVariants.{Less}
use Rattle.semver_texts.specs.Digits.{plain_by}
use Rattle.semver_texts.specs.Texts.{is_empty}
use Rattle.semver_texts.specs.Versions.{PlainVersion}
use Rattle.semver_texts.specs.declared.grammar.Digits.{Digits}
use Rattle.semver_texts.specs.declared.grammar.Digits.TheVariants.{Kept, AnySize}
use Rattle.semver_texts.specs.Precedence.{precedence}
use Rattle.version_sets.specs.Boundaries.{is_inside, IsIncreasing}

-- the boundaries of the releases and of the pre-releases, and how identifiers of digits are read in
-- the versions that are looked up
pub record SetValue : Type 0 where
  pub releases : List PlainVersion
  pub pre_releases : List PlainVersion
  pub digits : Digits

-- whether a version is in a set, by the boundaries of its kind: of the releases or the pre-releases
abbrev pub contains : SetValue → PlainVersion → Bool
contains set v =
    if is_empty v.pre
    then is_inside precedence set.releases v else is_inside precedence set.pre_releases v

-- whether a version, as a `Version` keeps it, is in a set. The set says how identifiers of digits
-- are read
abbrev pub contains_kept : SetValue → PlainVersion → Bool
contains_kept set v = contains set (plain_by set.digits v)

-- the numbers of a version fit 64 bits
abbrev pub Fits : PlainVersion → Type 0
Fits v = (v.major < 2 ^ 64) × (v.minor < 2 ^ 64) × (v.patch < 2 ^ 64)

-- whether identifiers of digits are read in the same way
abbrev pub same_digits : Digits → Digits → Bool
same_digits Kept Kept = true
same_digits AnySize AnySize = true
same_digits _ _ = false

-- whether two sets read identifiers of digits in the same way and have the same boundaries
abbrev pub same_set : SetValue → SetValue → Bool
same_set a b =
    same_digits a.digits b.digits
    && (pointwise (eq_by_cmp precedence) a.releases b.releases
    && pointwise (eq_by_cmp precedence) a.pre_releases b.pre_releases)

-- the numbers of a version are at most `most`
abbrev pub IsWithin : ℕ → PlainVersion → Type 0
IsWithin most v = (v.major ≤ most) × (v.minor ≤ most) × (v.patch ≤ most)

-- a version whose numbers fit, as those of every `Version` do, is in the set
abbrev pub IsIn : PlainVersion → SetValue → Type 0
IsIn v set = Fits v × IsTrue (contains set v)

abbrev pub IsRelease : PlainVersion → Type 0
IsRelease v = Fits v × (is_empty v.pre ≡ true)

abbrev pub IsPreRelease : PlainVersion → Type 0
IsPreRelease v = Fits v × (is_empty v.pre ≡ false)

-- the boundaries of one kind: each is of the kind, and is below the next by precedence
pub record AreBoundaries (IsOfKind : PlainVersion → Type 0) (boundaries : List PlainVersion)
    : Type 0 where
  pub increase : IsIncreasing precedence boundaries
  pub are_of_kind : AllByRecursion IsOfKind boundaries

-- the normal form of a set: its boundaries are of their kind, and each is below the next
pub record IsNormal (set : SetValue) : Type 0 where
  pub releases : AreBoundaries IsRelease set.releases
  pub pre_releases : AreBoundaries IsPreRelease set.pre_releases

-- the version is of a kind and in the set, and no version of that kind in the set is below it by
-- precedence
pub record IsLowest (IsOfKind : PlainVersion → Type 0) (set : SetValue) (v : PlainVersion)
    : Type 0 where
  pub is_of_kind : IsOfKind v
  pub is_in : IsIn v set
  pub lowest : (w : PlainVersion) → IsOfKind w → IsIn w set → precedence w v ≢ Less

-- no version of a kind is in the set
abbrev pub HasNone : (PlainVersion → Type 0) → SetValue → Type 0
HasNone IsOfKind set = (v : PlainVersion) → IsOfKind v → ¬ IsIn v set

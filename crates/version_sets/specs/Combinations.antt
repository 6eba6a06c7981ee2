-- Which versions are in the union, the intersection or the difference of two sets.
use Rattle.std.specs.Prelude.{◌≡◌, ◌&&◌, ◌||◌, Bool, true, not}
use Rattle.semver_texts.specs.Versions.{PlainVersion}
use Rattle.version_sets.specs.declared.set_operations.Combination.{Combination}
use Rattle.version_sets.specs.declared.set_operations.Combination.TheVariants.{Union}
use Rattle.version_sets.specs.declared.set_operations.Combination.TheVariants.{Intersection}
use Rattle.version_sets.specs.declared.set_operations.Combination.TheVariants.{Difference}
use Rattle.version_sets.specs.VersionSets.{SetValue, Fits, contains}

-- whether a version is in the combination of two sets, by whether it is in the first one and in the
-- second one. The union has the versions that are in the first set, in the second, or in both. The
-- intersection has those that are in both, and the difference those that are in the first set and
-- not in the second
abbrev pub keeps : Combination → Bool → Bool → Bool
keeps Union in_first in_second = in_first || in_second
keeps Intersection in_first in_second = in_first && in_second
keeps Difference in_first in_second = in_first && not in_second

-- a version whose numbers fit, as those of every `Version` do, is in the combination of two sets
abbrev pub IsKept : Combination → SetValue → SetValue → PlainVersion → Type 0
IsKept how first second v = Fits v × (keeps how (contains first v) (contains second v) ≡ true)

-- the combination of two sets contains a version
abbrev pub KeepsSome : Combination → SetValue → SetValue → Type 0
KeepsSome how first second = (v : PlainVersion) × IsKept how first second v

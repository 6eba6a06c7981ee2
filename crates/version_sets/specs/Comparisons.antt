-- What a comparison of two sets returns: the lowest of some versions, or `None` if there are none.
use Rattle.std.specs.Prelude.{◌≡◌, ◌≢◌, [], Option, Some, None}
use Rattle.std.specs.declared.cmp.Ordering.TheVariants.{Less}
use Rattle.semver_texts.specs.Digits.{plain_kept}
use Rattle.semver_texts.specs.Versions.{PlainVersion, VersionValue}
use Rattle.semver_texts.specs.Precedence.{precedence}
use Rattle.semver_texts.specs.VersionViews.{version_value}
use Rattle.semver_texts.specs.declared.version.Version.{Version}
use Rattle.version_sets.specs.VersionSets.{IsPreRelease}

-- the version is one of the requested ones, it has no build metadata, and none of the requested
-- ones is below it by precedence
pub record IsLowestOf (IsOne : PlainVersion → Type 0) (v : VersionValue) : Type 0 where
  pub is_one : IsOne v.plain
  pub no_build : v.build ≡ []
  pub lowest : (w : PlainVersion) → IsOne w → precedence w v.plain ≢ Less

-- the `Version` is the value as it is kept: a number of 2^64 or more in the pre-release is kept as
-- its text
abbrev pub IsKeptOf : VersionValue → Version → Type 0
IsKeptOf v version =
    version_value version ≡ record { plain = plain_kept v.plain; build = v.build }

-- the result is the lowest of the requested versions, as a `Version` keeps it, or `None` if and
-- only if there are none
abbrev pub TellsLowest : (PlainVersion → Type 0) → Option Version → Type 0
TellsLowest IsOne None = (v : PlainVersion) → ¬ IsOne v
TellsLowest IsOne (Some version) =
    (v : VersionValue) × IsLowestOf IsOne v × IsKeptOf v version

-- the lowest of the requested versions is a pre-release
abbrev pub LowestIsPreRelease : (PlainVersion → Type 0) → Type 0
LowestIsPreRelease IsOne = (v : VersionValue) × IsPreRelease v.plain × IsLowestOf IsOne v

-- A means of proof: a set of versions as a test of versions.
use Rattle.std.specs.Prelude.{Bool, ◌&&◌}
use Rattle.semver_texts.specs.VersionViews.{version_value}
use Rattle.semver_texts.specs.declared.version.Version.{Version}
use Rattle.version_sets.specs.PreReleaseRules.{numbers_fit}
use Rattle.version_sets.specs.VersionSets.{SetValue, contains_kept}

-- whether the numbers of a version fit 64 bits, and the set contains it
abbrev pub is_member : SetValue → Version → Bool
is_member set version =
    numbers_fit (version_value version).plain && contains_kept set (version_value version).plain

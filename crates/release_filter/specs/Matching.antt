-- A range as a test on versions.
use Rattle.std.specs.Prelude.{Bool, ◌&&◌}
use Rattle.semver_texts.specs.Versions.{VersionValue}
use Rattle.tool_ranges.specs.VersionRanges.{RangeValue}
use Rattle.version_sets.specs.PreReleaseRules.{numbers_fit}
use Rattle.version_sets.specs.VersionSets.{contains}

-- whether the numbers of a version fit 64 bits, and the range contains it
abbrev pub matches : RangeValue → VersionValue → Bool
matches range v = numbers_fit v.plain && contains range.versions v.plain

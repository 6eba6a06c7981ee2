-- The three rules for pre-releases: which versions satisfy a range text of the crate's dialects
-- under each of them.
use Rattle.std.specs.Prelude.{Bool, ◌&&◌}
use Rattle.semver_texts.specs.Texts.{is_empty}
use Rattle.std.specs.List.{list_all}
use Rattle.semver_texts.specs.Versions.{PlainVersion, VersionValue, numbers}
use Rattle.semver_ranges.specs.Partials.{fits_u64}
use Rattle.semver_ranges.specs.declared.range.Compat.{Compat}
use Rattle.semver_ranges.specs.RangeTree.{SetTree}
use Rattle.semver_ranges.specs.CrateMeaning.{meets_tree}
use Rattle.semver_ranges.specs.StatedPreReleases.{meets_tree_as_stated}
use Rattle.version_sets.specs.declared.rules.PreReleases.{PreReleases}
use Rattle.version_sets.specs.declared.rules.PreReleases.TheVariants.{Excluded, ByDialect, Included}

-- whether a version has no pre-release
abbrev pub is_release : VersionValue → Bool
is_release v = is_empty v.plain.pre

-- whether a version satisfies a text under a rule. With `Excluded`, it is a release that satisfies
-- some range. With `ByDialect`, it satisfies some range in which it counts: a pre-release counts
-- only if a term of the range states its three numbers and a pre-release. With `Included`, it
-- satisfies some range
abbrev pub meets_text_with : PreReleases → Compat → SetTree → VersionValue → Bool
meets_text_with Excluded mode tree v = is_release v && meets_tree mode tree v.plain
meets_text_with ByDialect mode tree v = meets_tree_as_stated mode tree v.plain
meets_text_with Included mode tree v = meets_tree mode tree v.plain

-- whether the numbers of a version fit 64 bits, as those of each `Version` and each version text do
abbrev pub numbers_fit : PlainVersion → Bool
numbers_fit v = list_all fits_u64 (numbers v)

-- whether a version satisfies a text under a rule, and its numbers fit 64 bits
abbrev pub meant_with : PreReleases → Compat → SetTree → VersionValue → Bool
meant_with rule mode tree v = numbers_fit v.plain && meets_text_with rule mode tree v

-- whether a version is a release that satisfies a text, and its numbers fit 64 bits
abbrev pub is_kept : Compat → SetTree → VersionValue → Bool
is_kept = meant_with Excluded

-- What the hash of a range is made of.
use Rattle.std.specs.Prelude.{◌++◌, ℤ, pos}
use Rattle.std.specs.Hash as fed
use Rattle.std.specs.Hash.{HashWrites}
use Rattle.version_sets.specs.HashedSets.{hashed_set}
use Rattle.version_sets.specs.declared.rules.PreReleases.{PreReleases}
use Rattle.version_sets.specs.declared.rules.PreReleases.TheVariants.{Excluded, ByDialect, Included}
use Rattle.semver_ranges.specs.DialectTable.{number_of}
use Rattle.tool_ranges.specs.VersionRanges.{RangeValue}

-- the place of a rule in its enum
abbrev pub rule_place : PreReleases → ℤ
rule_place Excluded = pos 0
rule_place ByDialect = pos 1
rule_place Included = pos 2

-- what `hash` writes: the places of the dialect and of the rule in their enums, and the boundaries
-- of the versions
abbrev pub hashed_range : RangeValue → HashWrites
hashed_range r =
    fed.isize (number_of r.meaning.dialect)
    ++ (fed.isize (rule_place r.meaning.pre_releases) ++ hashed_set r.versions)

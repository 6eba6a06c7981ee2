-- Which versions satisfy a range text, in a dialect and under a rule for pre-releases.
use Rattle.std.specs.Prelude.{◌≡◌, Bool}
use Rattle.semver_texts.specs.Texts.{Text}
use Rattle.semver_texts.specs.Versions.{VersionValue}
use Rattle.semver_ranges.specs.declared.range.Compat.TheVariants as compat
use Rattle.version_sets.specs.PreReleaseRules.{meant_with}
use Rattle.version_sets.specs.VersionSets.{SetValue, contains, Fits}
use Rattle.version_sets.specs.declared.rules.PreReleases.{PreReleases}
use Rattle.semver_ranges.specs.RangeTree.{SetTree}
use Rattle.semver_ranges.specs.declared.dialect.Dialect.{Dialect}
use Rattle.semver_ranges.specs.declared.dialect.Dialect.TheVariants.{Cargo, Npm, CrateCargo}
use Rattle.semver_ranges.specs.declared.dialect.Dialect.TheVariants.{CrateNpm}
use Rattle.tool_ranges.specs.declared.meaning.Rules.{Rules}
use Rattle.tool_ranges.specs.CargoMeaning.{meets_requirement}
use Rattle.tool_ranges.specs.NpmMeaning.{meets_npm}
use Rattle.tool_ranges.specs.Dialects.{SpellsAs}

-- whether a version satisfies a tree in a dialect, under a rule for pre-releases
abbrev pub meant_by : Dialect → PreReleases → SetTree → VersionValue → Bool
meant_by Cargo rule tree v = meets_requirement rule tree v.plain
meant_by Npm rule tree v = meets_npm rule tree v.plain
meant_by CrateCargo rule tree v = meant_with rule compat.Cargo tree v
meant_by CrateNpm rule tree v = meant_with rule compat.Npm tree v

-- whether a version satisfies a tree under a meaning, which has a dialect and a rule
abbrev pub meant_as : Rules → SetTree → VersionValue → Bool
meant_as meaning tree v = meant_by meaning.dialect meaning.pre_releases tree v

-- for each tree of the text, and each version whose numbers fit 64 bits, the set contains the
-- version if and only if the version satisfies the tree
abbrev pub MeansBy : Dialect → PreReleases → Text → SetValue → Type 0
MeansBy dialect rule t set = (tree : SetTree) (v : VersionValue)
    → SpellsAs dialect tree t → Fits v.plain → contains set v.plain ≡ meant_by dialect rule tree v

-- as `MeansBy`, with the dialect and the rule of a meaning
abbrev pub MeansAs : Rules → Text → SetValue → Type 0
MeansAs meaning t set = MeansBy meaning.dialect meaning.pre_releases t set

-- Build metadata doesn't count.
use Rattle.std.proofs.Common.{◌≡◌, ap}
use Rattle.semver_texts.specs.Versions.{VersionValue}
use Rattle.version_sets.specs.declared.rules.PreReleases.{PreReleases}
use Rattle.version_sets.specs.declared.rules.PreReleases.TheVariants.{ByDialect, Included, Excluded}
use Rattle.semver_ranges.specs.RangeTree.{SetTree}
use Rattle.tool_ranges.specs.CargoMeaning.{meets_requirement}
use Rattle.tool_ranges.specs.Meanings.{meant_by}
use Rattle.tool_ranges.specs.NpmMeaning.{meets_npm}
use Rattle.semver_ranges.specs.declared.dialect.Dialect.{Dialect}
use Rattle.semver_ranges.specs.declared.dialect.Dialect.TheVariants.{Cargo, Npm}

pub same_plain : (d : Dialect) (rule : PreReleases) (tree : SetTree) (w w' : VersionValue) → w.plain ≡ w'.plain
    → meant_by d rule tree w ≡ meant_by d rule tree w'
same_plain Cargo rule tree w w' e = ap (meets_requirement rule tree) e
same_plain Npm rule tree w w' e = ap (meets_npm rule tree) e
same_plain d ByDialect tree w w' e = cc
same_plain d Included tree w w' e = cc
same_plain d Excluded tree w w' e = cc

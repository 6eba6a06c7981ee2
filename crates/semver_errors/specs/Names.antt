-- The dialects and the rules for pre-releases that have a name.
use Rattle.std.specs.Prelude.{Option, Some, None, if◌then◌else◌, codes}
use Rattle.std.specs.Str.{bytes_eq}
use Rattle.semver_texts.specs.Texts.{Text}
use Rattle.semver_ranges.specs.DialectTable as dialects
use Rattle.semver_ranges.specs.declared.dialect.Dialect.{Dialect}
use Rattle.semver_ranges.specs.declared.dialect.Dialect.TheVariants as dialect
use Rattle.version_sets.specs.PreReleaseTable as rules
use Rattle.version_sets.specs.declared.rules.PreReleases.{PreReleases}
use Rattle.version_sets.specs.declared.rules.PreReleases.TheVariants as rule

-- the dialect with a name
abbrev pub dialect_named : Text → Option Dialect
dialect_named t =
    if bytes_eq t (dialects.name_of dialect.Cargo) then Some dialect.Cargo
    else (if bytes_eq t (dialects.name_of dialect.Npm) then Some dialect.Npm
    else (if bytes_eq t (dialects.name_of dialect.CrateCargo) then Some dialect.CrateCargo
    else (if bytes_eq t (dialects.name_of dialect.CrateNpm) then Some dialect.CrateNpm
    else None)))

-- the rule for pre-releases with a name
abbrev pub rule_named : Text → Option PreReleases
rule_named t =
    if bytes_eq t (rules.name_of rule.ByDialect) then Some rule.ByDialect
    else (if bytes_eq t (rules.name_of rule.Included) then Some rule.Included
    else (if bytes_eq t (rules.name_of rule.Excluded) then Some rule.Excluded
    else None))

-- the names, for the error of another one
abbrev pub dialect_names : Text
dialect_names = codes "cargo, npm, crate-cargo or crate-npm"

abbrev pub rule_names : Text
rule_names = codes "by-dialect, included or excluded"

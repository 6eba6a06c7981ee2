-- The number, the name and the grammar of each dialect, and the highest number in its versions and
-- ranges.
use Rattle.std.specs.Prelude.{ℕ, ◌-◌, ◌^◌, ℤ, pos, codes}
use Rattle.semver_texts.specs.Texts.{Text}
use Rattle.semver_texts.specs.declared.grammar.Grammar.{Grammar}
use Rattle.semver_texts.specs.declared.grammar.Grammar.TheVariants as grammar
use Rattle.semver_ranges.specs.declared.range.Compat.{Compat}
use Rattle.semver_ranges.specs.declared.range.Compat.TheVariants as compat
use Rattle.semver_ranges.specs.declared.dialect.Dialect.{Dialect}
use Rattle.semver_ranges.specs.declared.dialect.Dialect.TheVariants.{Cargo, Npm, CrateCargo}
use Rattle.semver_ranges.specs.declared.dialect.Dialect.TheVariants.{CrateNpm}

-- its number in C, Python and JavaScript
abbrev pub number_of : Dialect → ℤ
number_of Cargo = pos 0
number_of Npm = pos 1
number_of CrateCargo = pos 2
number_of CrateNpm = pos 3

-- its name, for programs and after `--dialect`
abbrev pub name_of : Dialect → Text
name_of Cargo = codes "cargo"
name_of Npm = codes "npm"
name_of CrateCargo = codes "crate-cargo"
name_of CrateNpm = codes "crate-npm"

-- what separates the comparators of an interval
abbrev pub joint_of : Dialect → Text
joint_of Cargo = codes ", "
joint_of dialect = codes " "

-- the highest number in a version or a range, also for a bound that is raised
abbrev pub limit : Dialect → ℕ
limit Npm = 2 ^ 53 - 1
limit dialect = 2 ^ 64 - 1

-- the grammar of versions and ranges in a dialect
abbrev pub grammar_of : Dialect → Grammar
grammar_of Cargo = grammar.Cargo
grammar_of Npm = grammar.Npm
grammar_of CrateCargo = grammar.Crate
grammar_of CrateNpm = grammar.Crate

-- the mode of the comparators that ranges of a dialect are rewritten to
abbrev pub mode_of : Dialect → Compat
mode_of Cargo = compat.Cargo
mode_of Npm = compat.Npm
mode_of CrateCargo = compat.Cargo
mode_of CrateNpm = compat.Npm

-- the crate's own dialect in a mode
abbrev pub own_dialect : Compat → Dialect
own_dialect compat.Cargo = CrateCargo
own_dialect compat.Npm = CrateNpm

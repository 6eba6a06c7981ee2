-- The number and the name of each rule for pre-releases.
use Rattle.std.specs.Prelude.{ℤ, pos, codes}
use Rattle.semver_texts.specs.Texts.{Text}
use Rattle.version_sets.specs.declared.rules.PreReleases.{PreReleases}
use Rattle.version_sets.specs.declared.rules.PreReleases.TheVariants.{Excluded, ByDialect, Included}

-- its number in C, Python and JavaScript
abbrev pub number_of : PreReleases → ℤ
number_of ByDialect = pos 0
number_of Included = pos 1
number_of Excluded = pos 2

-- its name for programs
abbrev pub name_of : PreReleases → Text
name_of ByDialect = codes "by-dialect"
name_of Included = codes "included"
name_of Excluded = codes "excluded"

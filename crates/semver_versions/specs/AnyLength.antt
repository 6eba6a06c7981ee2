-- Versions in each grammar, for texts of any length. Only npm limits the length.
use Rattle.semver_texts.specs.Texts.{Text}
use Rattle.semver_texts.specs.ToolVersions.{SpellsNpmAtAnyLength, SpellsSemver}
use Rattle.semver_texts.specs.VersionGrammar.{SpellsVersion}
use Rattle.semver_texts.specs.Versions.{VersionValue}
use Rattle.semver_texts.specs.declared.grammar.Grammar.{Grammar}
use Rattle.semver_texts.specs.declared.grammar.Grammar.TheVariants.{Crate, Cargo, Npm}

-- the text spells the version in a grammar, at any length
abbrev pub SpellsAtAnyLength : Grammar → VersionValue → Text → Type 0
SpellsAtAnyLength Crate v text = SpellsVersion v text
SpellsAtAnyLength Cargo v text = SpellsSemver v text
SpellsAtAnyLength Npm v text = SpellsNpmAtAnyLength v text

-- the text spells some version in a grammar, at any length
abbrev pub IsVersionAtAnyLength : Grammar → Text → Type 0
IsVersionAtAnyLength grammar text = (v : VersionValue) × SpellsAtAnyLength grammar v text

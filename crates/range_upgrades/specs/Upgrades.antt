-- Which versions a requirement has before and after it is raised.
use Rattle.std.specs.Prelude.{◌≡◌, ◌≢◌, true}
use Rattle.std.specs.declared.cmp.Ordering.TheVariants.{Less}
use Rattle.semver_texts.specs.Precedence.{precedence}
use Rattle.semver_texts.specs.Texts.{Text}
use Rattle.semver_texts.specs.ToolVersions.{SpellsIn}
use Rattle.semver_texts.specs.Versions.{PlainVersion, VersionValue}
use Rattle.semver_versions.specs.VersionRefs.{IsVersionRefIn, VersionRefValue}
use Rattle.semver_ranges.specs.RangeTree.{SetTree}
use Rattle.version_sets.specs.VersionSets.{Fits}
use Rattle.tool_ranges.specs.Dialects.{HasSetAs, SpellsAs}
use Rattle.semver_ranges.specs.DialectTable.{grammar_of}
use Rattle.tool_ranges.specs.Meanings.{meant_as}
use Rattle.semver_ranges.specs.declared.dialect.Dialect.{Dialect}
use Rattle.tool_ranges.specs.declared.meaning.Rules.{Rules}

-- the string is a range, and the version satisfies it
abbrev pub IsSatisfied : Rules → Text → VersionValue → Type 0
IsSatisfied m range w = HasSetAs m.dialect range
    × ((tree : SetTree) → SpellsAs m.dialect tree range → true ≡ meant_as m tree w)

-- some version that satisfies the range isn't below this one by precedence
abbrev pub HasVersionFrom : Rules → Text → PlainVersion → Type 0
HasVersionFrom m range v = (w : VersionValue) × Fits w.plain × (precedence w.plain v ≢ Less)
    × IsSatisfied m range w

-- some version that satisfies the range isn't below the version of a string
abbrev pub HasVersionFromText : Rules → Text → Text → Type 0
HasVersionFromText m range version =
    (v : VersionValue) × SpellsIn (grammar_of m.dialect) v version × HasVersionFrom m range v.plain

-- every version that satisfies the first range satisfies the second one, too
abbrev pub LosesNone : Rules → Text → Text → Type 0
LosesNone m old new =
    (w : VersionValue) → Fits w.plain → IsSatisfied m old w → IsSatisfied m new w

-- the borrowed version was read from a string in the dialect
abbrev pub IsReadIn : Dialect → VersionRefValue → Type 0
IsReadIn dialect version = (text : Text) × IsVersionRefIn (grammar_of dialect) text version

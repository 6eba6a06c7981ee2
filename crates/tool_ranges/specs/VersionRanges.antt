-- Ranges that were read: a set of versions, and the meaning with which it was read.
use Rattle.std.specs.Prelude.{◌≡◌, ◌&&◌, Bool, Result, Ok, Err}
use Rattle.std.specs.Ordering.{int_eq}
use Rattle.semver_texts.specs.Texts.{Text}
use Rattle.semver_texts.specs.ToolVersions.{IsVersionTextIn, SpellsIn}
use Rattle.semver_texts.specs.Versions.{VersionValue}
use Rattle.semver_texts.specs.declared.grammar.Grammar.{Grammar}
use Rattle.version_sets.specs.PreReleaseTable.{number_of as rule_number}
use Rattle.version_sets.specs.VersionSets.{SetValue, contains, same_set}
use Rattle.semver_ranges.specs.DialectTable.{number_of}
use Rattle.semver_ranges.specs.DialectTable.{grammar_of}
use Rattle.tool_ranges.specs.declared.meaning.Rules.{Rules}
use Rattle.tool_ranges.specs.declared.satisfying.SatisfiesError.{SatisfiesError}
use Rattle.tool_ranges.specs.declared.satisfying.SatisfiesError.TheVariants.{InvalidRange}
use Rattle.tool_ranges.specs.declared.satisfying.SatisfiesError.TheVariants.{InvalidVersion}

-- the versions that a range contains, and its meaning
pub record RangeValue : Type 0 where
  pub versions : SetValue
  pub meaning : Rules

-- the grammar of versions in the dialect of a range
abbrev pub versions_grammar : RangeValue → Grammar
versions_grammar range = grammar_of range.meaning.dialect

-- the result for a version text: whether the range contains its version, or `InvalidVersion` if it
-- is invalid
abbrev pub ContainsText : RangeValue → Text → Result Bool SatisfiesError → Type 0
ContainsText range text (Ok contained) = (v : VersionValue)
    × SpellsIn (versions_grammar range) v text × (contained ≡ contains range.versions v.plain)
ContainsText range text (Err InvalidVersion) = ¬ (IsVersionTextIn (versions_grammar range) text)
ContainsText range text (Err (InvalidRange error)) = ⊥

-- whether two meanings have the same dialect and the same rule, compared by their numbers
abbrev pub same_meaning : Rules → Rules → Bool
same_meaning a b =
    int_eq (number_of a.dialect) (number_of b.dialect)
    && int_eq (rule_number a.pre_releases) (rule_number b.pre_releases)

-- whether two ranges have the same meaning and the same versions
abbrev pub same_range : RangeValue → RangeValue → Bool
same_range a b = same_meaning a.meaning b.meaning && same_set a.versions b.versions

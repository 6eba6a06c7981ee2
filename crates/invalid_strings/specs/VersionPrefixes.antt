-- Prefixes of versions: the texts with which some version begins, in each dialect.
use Rattle.std.specs.Prelude.{ℕ, ◌++◌}
use Rattle.semver_texts.specs.Texts.{Text}
use Rattle.semver_texts.specs.ToolVersions.{IsVersionTextIn}
use Rattle.semver_texts.specs.declared.grammar.Grammar.{Grammar}
use Rattle.semver_versions.specs.AnyLength.{IsVersionAtAnyLength}
use Rattle.invalid_strings.specs.Prefixes.{BeginsWhole, IsLongestWholePrefix}
use Rattle.invalid_strings.specs.declared.bytes.Length.{Length}
use Rattle.invalid_strings.specs.declared.bytes.Length.TheVariants.{Allowed, Any}

-- the text is a version in a grammar, with a length that the grammar allows, or of any length
abbrev pub IsVersionOf : Length → Grammar → Text → Type 0
IsVersionOf Allowed grammar text = IsVersionTextIn grammar text
IsVersionOf Any grammar text = IsVersionAtAnyLength grammar text

-- some version begins with the text
abbrev pub IsPrefixIn : Grammar → Text → Type 0
IsPrefixIn grammar text = (more : Text) × IsVersionTextIn grammar (text ++ more)

-- some version begins with the text and continues with ASCII. So the text doesn't end within a
-- character
abbrev pub IsWholePrefixIn : Grammar → Text → Type 0
IsWholePrefixIn grammar text = BeginsWhole (IsVersionTextIn grammar) text

-- the offset is the end of the longest such prefix with which the text begins
abbrev pub IsLongestVersionPrefix : Grammar → Text → ℕ → Type 0
IsLongestVersionPrefix grammar text offset =
    IsLongestWholePrefix (IsVersionTextIn grammar) text offset

-- What a filter decides about a line.
use Rattle.std.specs.Prelude.{◌≡◌, ◌≤◌, ◌⊎◌, ℕ, Bool, true, false, List, [], ◌∷◌, ◌++◌, IsTrue}
use Rattle.std.specs.Prelude.{if◌then◌else◌, drop, take, length}
use Rattle.std.specs.List.{list_any}
use Rattle.tool_ranges.specs.VersionRanges.{RangeValue, versions_grammar}
use Rattle.semver_texts.specs.Texts.{Text, is_empty}
use Rattle.semver_texts.specs.Versions.{PlainVersion, VersionValue}
use Rattle.semver_texts.specs.ToolVersions.{SpellsIn}
use Rattle.semver_texts.specs.declared.grammar.Grammar.{Grammar}
use Rattle.release_filter.specs.Matching.{matches}
use Rattle.release_filter.specs.LineTexts.{line_text, longest_text}
use Rattle.release_filter.specs.declared.line_texts.LineEnd.{LineEnd}

-- the range that versions of kept lines are in, the prefixes that a line may have, what ends a
-- line, and whether a kept line is written without its prefix
pub record LineRule : Type 0 where
  pub filter : RangeValue
  pub prefixes : List Text
  pub ending : LineEnd
  pub strips_prefix : Bool

-- the text is the prefix followed by the text of a version in a dialect
abbrev pub SpellsAfter : Grammar → Text → Text → VersionValue → Type 0
SpellsAfter grammar prefix text v =
    (rest : Text) × (text ≡ prefix ++ rest) × SpellsIn grammar v rest

-- the text has this version after this prefix. Of the prefixes, it is the first after which the
-- text has a version
abbrev pub HasVersion : Grammar → List Text → Text → Text → VersionValue → Type 0
HasVersion grammar [] text first v = ⊥
HasVersion grammar (prefix ∷ prefixes) text first v =
    ((first ≡ prefix) × SpellsAfter grammar prefix text v)
    ⊎ (((w : VersionValue) → ¬ (SpellsAfter grammar prefix text w))
    × HasVersion grammar prefixes text first v)

-- the prefixes that are tried: only the empty one if none is given
abbrev pub tried : List Text → List Text
tried [] = [] ∷ []
tried (prefix ∷ prefixes) = prefix ∷ prefixes

-- what is decided about a line. It is kept, with its version without build metadata, and the bytes
-- to write. Or it is dropped, since its version doesn't match. Or it has no version: then it is
-- empty, or it is invalid, with the beginning of its text
pub data Verdict : Type 0 where
  kept : PlainVersion → Text → Verdict
  dropped empty : Verdict
  invalid : Text → Verdict

abbrev pub is_invalid : Verdict → Bool
is_invalid (kept version given) = false
is_invalid dropped = false
is_invalid empty = false
is_invalid (invalid front) = true

-- whether some line is invalid: it is not empty and has no version
abbrev pub has_invalid : List Verdict → Bool
has_invalid verdicts = list_any (λ v. is_invalid v) verdicts

-- the number of bytes of an invalid line's text that are reported
abbrev pub reported : ℕ
reported = 81

module _ (rule : LineRule) where
  -- the line has this version after this prefix; if its text is longer than `longest_text`, it has
  -- none
  abbrev pub HasAfter : Text → Text → VersionValue → Type 0
  HasAfter line prefix v = (length (line_text rule.ending line) ≤ longest_text)
      × HasVersion (versions_grammar rule.filter) (tried rule.prefixes)
      (line_text rule.ending line) prefix v

  abbrev pub HasNoVersion : Text → Type 0
  HasNoVersion line = (prefix : Text) (v : VersionValue) → ¬ (HasAfter line prefix v)

  -- the bytes to write for a line that has a version after a prefix of `count` bytes
  abbrev pub given_after : ℕ → Text → Text
  given_after count line = if rule.strips_prefix then drop count line else line

  -- the verdict on a line: it has a version that matches or doesn't, or it has none, and its text
  -- is empty or isn't
  abbrev pub IsVerdictOn : Text → Verdict → Type 0
  IsVerdictOn line (kept version given) = (prefix : Text) × (v : VersionValue)
      × HasAfter line prefix v × IsTrue (matches rule.filter v) × (version ≡ v.plain)
      × (given ≡ given_after (length prefix) line)
  IsVerdictOn line dropped = (prefix : Text) × (v : VersionValue)
      × HasAfter line prefix v × (matches rule.filter v ≡ false)
  IsVerdictOn line empty = HasNoVersion line × (is_empty (line_text rule.ending line) ≡ true)
  IsVerdictOn line (invalid front) = HasNoVersion line
      × (is_empty (line_text rule.ending line) ≡ false)
      × (front ≡ take reported (line_text rule.ending line))

  -- these are the verdicts on the lines, in their order
  abbrev pub AreVerdictsOn : List Text → List Verdict → Type 0
  AreVerdictsOn [] [] = Unit {0}
  AreVerdictsOn (line ∷ lines) (verdict ∷ verdicts) =
      IsVerdictOn line verdict × AreVerdictsOn lines verdicts
  AreVerdictsOn [] (verdict ∷ verdicts) = ⊥
  AreVerdictsOn (line ∷ lines) [] = ⊥

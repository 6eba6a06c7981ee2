-- The lines that the report writes for a text.
use Rattle.std.specs.Prelude.{◌≡◌, ℕ, Bool, true, false, ◌||◌, List, [], ◌∷◌, ◌++◌, IsTrue, Option}
use Rattle.std.specs.Prelude.{Result, Ok, Err, MatchResult, codes}
use Rattle.std.specs.Io.KnownBytes.{Appends}
use Rattle.semver_ranges.specs.declared.range.Compat.{Compat}
use Rattle.semver_ranges.specs.declared.range.Compat.TheVariants.{Cargo, Npm}
use Rattle.semver_ranges.specs.declared.range_set.RangeError.{RangeError}
use Rattle.semver_ranges.specs.declared.range_set.RangeError.TheVariants.{NotARange, NumberTooLarge}
use Rattle.semver_ranges.specs.declared.range_set.RangeError.TheVariants.{OutOfMemory}
use Rattle.semver_texts.specs.Texts.{Text}
use Rattle.semver_texts.specs.Versions.{VersionValue}
use Rattle.semver_texts.specs.PrintedText.{version_text}
use Rattle.semver_tokens.specs.ParserState as spec
use Rattle.semver_tokens.specs.ParserState.{ErrorValue}
use Rattle.semver_tokens.specs.VersionReading.{IsOutcomeOf, TextMayRunOut}
use Rattle.semver_ranges.specs.RangeTexts.{IsRangeText}
use Rattle.semver_ranges.specs.RangeTree.{SetTree, Spells}
use Rattle.semver_ranges.specs.RewritingTable.{fits, rewritten}
use Rattle.semver_ranges.specs.PrintedRanges.{set_text}
use Rattle.semver_texts.specs.Writing.{AppendsBeginning}

-- the word for an error of a version text
abbrev pub version_error_word : ErrorValue → Text
version_error_word spec.UnexpectedEnd = codes "unexpected-end"
version_error_word (spec.UnexpectedToken t) = codes "unexpected-token"
version_error_word (spec.Lexer c) = codes "unexpected-char"
version_error_word (spec.MoreInput ts) = codes "more-input"
version_error_word spec.EmptyPredicate = codes "empty-predicate"
version_error_word spec.EmptyRange = codes "empty-range"
version_error_word spec.OutOfMemory = codes "out-of-memory"

-- the word for an error of a range text
abbrev pub range_error_word : RangeError → Text
range_error_word NotARange = codes "not-a-range"
range_error_word NumberTooLarge = codes "number-too-large"
range_error_word OutOfMemory = codes "out-of-memory"

-- what is after `version: ` for a text, and whether it is a value and not the word for an error
pub data VersionLine : Text → Bool → Text → Type 0 where
  -- the version that the text spells, printed
  version_printed : (text : Text) (v : VersionValue) → IsOutcomeOf text (Ok v)
      → VersionLine text true (version_text v)
  -- the word for the error of the text
  version_refused : (text : Text) (e : ErrorValue) → IsOutcomeOf text (Err e)
      → VersionLine text false (version_error_word e)
  -- out of memory, if reading the text may run out of memory
  version_unread : (text : Text) → TextMayRunOut text
      → VersionLine text false (version_error_word spec.OutOfMemory)
  -- out of memory, instead of a printed version
  version_unprinted : (text : Text) (v : VersionValue) → IsOutcomeOf text (Ok v)
      → VersionLine text false (version_error_word spec.OutOfMemory)

-- what is after `cargo: ` and `npm: ` for a text, and whether it is a value and not the word for an
-- error
pub data RangeLine : Compat → Text → Bool → Text → Type 0 where
  -- the comparators to which the tree of the text is rewritten, printed
  set_printed : (mode : Compat) (text : Text) (tree : SetTree) → Spells tree text
      → IsTrue (fits mode tree) → RangeLine mode text true (set_text (rewritten mode tree))
  -- no tree spells the text
  not_a_range : (mode : Compat) (text : Text) → ¬ (IsRangeText text)
      → RangeLine mode text false (range_error_word NotARange)
  -- some tree spells the text, but doesn't fit
  number_too_large : (mode : Compat) (text : Text) (tree : SetTree) → Spells tree text
      → fits mode tree ≡ false → RangeLine mode text false (range_error_word NumberTooLarge)
  -- out of memory, instead of a set or of a printed set
  no_memory : (mode : Compat) (text : Text) (tree : SetTree) → Spells tree text
      → IsTrue (fits mode tree) → RangeLine mode text false (range_error_word OutOfMemory)

-- a line: its label, what is shown, and a line feed
abbrev pub line : Text → Text → Text
line label shown = label ++ shown ++ 10 ∷ []

-- the three lines that show these texts
abbrev pub lines : Text → Text → Text → Text
lines version cargo npm =
    line (codes "version: ") version ++ line (codes "cargo: ") cargo ++ line (codes "npm: ") npm

-- the bytes are the lines of the text; `good` is true if and only if at least one of the lines
-- shows a value
pub record AreLines (text : Text) (good : Bool) (bytes : Text) : Type 0 where
  pub version : Text
  pub cargo : Text
  pub npm : Text
  pub version_good : Bool
  pub cargo_good : Bool
  pub npm_good : Bool
  pub version_line : VersionLine text version_good version
  pub cargo_line : RangeLine Cargo text cargo_good cargo
  pub npm_line : RangeLine Npm text npm_good npm
  pub some_good : good ≡ (version_good || (cargo_good || npm_good))
  pub whole : bytes ≡ lines version cargo npm

-- after `Ok(good)`, exactly these lines were written; after `Err`, a beginning of such lines
abbrev pub WritesLines : {E : Type 0} → Text → Option (List ℕ) → Option (List ℕ) → Result Bool E
    → Type 0
WritesLines text old new r = MatchResult r
    (λ good. (bytes : Text) × AreLines text good bytes × Appends old new bytes)
    (λ _. (good : Bool) × (bytes : Text) × AreLines text good bytes
    × AppendsBeginning old new bytes)

-- 0 if some line shows a value, 1 if each line shows the word for an error, and 2 after a failed
-- write
abbrev pub status_of : {E : Type 0} → Result Bool E → ℕ
status_of (Ok true) = 0
status_of (Ok false) = 1
status_of (Err e) = 2

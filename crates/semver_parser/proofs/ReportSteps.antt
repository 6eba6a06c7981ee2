-- The bytes that the report writes are lines of its text.
use Rattle.std.proofs.Common.{◌≡◌, Bool, true, false, List, ℕ, Option, Result, Ok, Err, IfOk, IsTrue, codes, refl}
use Rattle.std.specs.Prelude.{◌||◌}
use Rattle.semver_ranges.specs.declared.range.Compat.{Compat}
use Rattle.semver_ranges.specs.declared.range.Compat.TheVariants.{Cargo, Npm}
use Rattle.semver_ranges.specs.declared.range_set.RangeSet.{RangeSet}
use Rattle.semver_ranges.specs.declared.range_set.RangeError.{RangeError}
use Rattle.semver_ranges.specs.declared.range_set.RangeError.TheVariants.{NotARange, NumberTooLarge, OutOfMemory}
use Rattle.semver_texts.specs.Texts.{Text}
use Rattle.semver_texts.specs.Versions.{VersionValue}
use Rattle.semver_texts.specs.PrintedText.{version_text}
use Rattle.semver_tokens.specs.ParserViews.{error_value, answer_of, UnlessOutOfMemory, IfOutOfMemory}
use Rattle.semver_texts.specs.VersionViews.{version_value}
use Rattle.semver_tokens.specs.VersionReading.{IsOutcomeOf, TextMayRunOut}
use Rattle.semver_tokens.specs.declared.parser.Error.{Error}
use Rattle.semver_tokens.specs.declared.parser.Error.TheVariants as error
use Rattle.semver_texts.specs.declared.version.Version.{Version}
use Rattle.semver_ranges.specs.RangeTree.{SetTree, Spells}
use Rattle.semver_ranges.specs.RangeTexts.{RefusesExactly}
use Rattle.semver_ranges.specs.RewritingTable.{PlainSet, fits, rewritten}
use Rattle.semver_ranges.specs.PrintedRanges.{set_text}
use Rattle.semver_texts.specs.Writing.{WritesOrBegins}
use Rattle.semver_parser.specs.ReportLines.{VersionLine, version_printed, version_refused, version_unread, version_unprinted}
use Rattle.semver_parser.specs.ReportLines.{version_error_word, range_error_word, RangeLine, set_printed, not_a_range, number_too_large}
use Rattle.semver_parser.specs.ReportLines.{no_memory, AreLines, WritesLines, lines}
use Rattle.semver_parser.specs.Steps.Shown.{shown_text, is_value_of}
use Rattle.semver_parser.specs.declared.report.Shown.{Shown}
use Rattle.semver_parser.specs.declared.report.Shown.TheVariants.{Value, Word}

-- a version that was read is shown as its printed text, or as out of memory
pub shows_version : (text : Text) (shown : Shown) (v : VersionValue) → IsOutcomeOf text (Ok v)
    → (is_value_of shown ≡ true → shown_text shown ≡ version_text v)
    → (is_value_of shown ≡ false → shown_text shown ≡ codes "out-of-memory")
    → VersionLine text (is_value_of shown) (shown_text shown)
shows_version text (Value t) v outcome value other =
    rw (value refl) (version_printed text v outcome)
shows_version text (Word w) v outcome value other =
    rw (other refl) (version_unprinted text v outcome)

-- an error is shown as its word
pub shows_error : (text : Text) (e : Error) → UnlessOutOfMemory {T = Version} (Err e) (IsOutcomeOf text (answer_of version_value (Err e)))
    → IfOutOfMemory {T = Version} (Err e) (TextMayRunOut text)
    → (word : Text) → word ≡ version_error_word (error_value e) → VersionLine text false word
shows_error text error.OutOfMemory outcome memory word is = rw is (version_unread text memory)
shows_error text _ outcome memory word is = rw is (version_refused text _ outcome)

-- a set that was read is shown as its printed text, or as out of memory
pub shows_set : (mode : Compat) (text : Text) (shown : Shown) (set : PlainSet) (tree : SetTree) → Spells tree text → IsTrue (fits mode tree)
    → set ≡ rewritten mode tree
    → (is_value_of shown ≡ true → shown_text shown ≡ set_text set) → (is_value_of shown ≡ false → shown_text shown ≡ codes "out-of-memory")
    → RangeLine mode text (is_value_of shown) (shown_text shown)
shows_set mode text (Value t) set tree spelled fit is value other =
    rw (value refl, is) (set_printed mode text tree spelled fit)
shows_set mode text (Word w) set tree spelled fit is value other =
    rw (other refl) (no_memory mode text tree spelled fit)

-- an error of a range text is shown as its word
pub shows_refusal : (mode : Compat) (text : Text) (e : RangeError) → RefusesExactly {A = RangeSet} mode text (Err e)
    → (word : Text) → word ≡ range_error_word e → RangeLine mode text false word
shows_refusal mode text NotARange refused word is = rw is (not_a_range mode text (refused.not_a_range.0 refl))
shows_refusal mode text NumberTooLarge refused word is =
    let found = refused.too_large.0 refl in rw is (number_too_large mode text found.0 found.1 found.2)
shows_refusal mode text OutOfMemory refused word is =
    let found = refused.out_of_memory refl in rw is (no_memory mode text found.0 found.1 found.2)

are_lines : (text : Text) (version cargo npm : Shown)
    → VersionLine text (is_value_of version) (shown_text version)
    → RangeLine Cargo text (is_value_of cargo) (shown_text cargo)
    → RangeLine Npm text (is_value_of npm) (shown_text npm)
    → AreLines text (is_value_of version || (is_value_of cargo || is_value_of npm))
    (lines (shown_text version) (shown_text cargo) (shown_text npm))
are_lines text version cargo npm p q s = record {
  version = shown_text version;
  cargo = shown_text cargo;
  npm = shown_text npm;
  version_good = is_value_of version;
  cargo_good = is_value_of cargo;
  npm_good = is_value_of npm;
  version_line = p;
  cargo_line = q;
  npm_line = s;
  some_good = refl;
  whole = refl;
}

-- if these three lines were written, or a beginning of them, they are lines of the text
pub writes_lines : {E : Type 0} (text : Text) (version cargo npm : Shown) (a b : Option (List ℕ)) (r : Result Bool E)
    → VersionLine text (is_value_of version) (shown_text version)
    → RangeLine Cargo text (is_value_of cargo) (shown_text cargo)
    → RangeLine Npm text (is_value_of npm) (shown_text npm)
    → WritesOrBegins a b r (lines (shown_text version) (shown_text cargo) (shown_text npm))
    → IfOk r (λ good. good ≡ (is_value_of version || (is_value_of cargo || is_value_of npm))) → WritesLines text a b r
writes_lines text version cargo npm a b (Ok good) p q s wrote is = (
  _,
  rw is (are_lines text version cargo npm p q s),
  wrote,
)
writes_lines text version cargo npm a b (Err e) p q s wrote is = (_, _, are_lines text version cargo npm p q s, wrote)

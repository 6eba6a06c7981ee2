-- The errors of other calls, as errors with their texts.
use Rattle.std.specs.Prelude.{◌≡◌, IfSome, codes}
use Rattle.repaired_strings.specs.Errors.{IsValid}
use Rattle.repaired_strings.specs.declared.errors.Expected.TheVariants.{Range, Version}
use Rattle.range_upgrades.specs.declared.upgrade.UpgradeError.{UpgradeError}
use Rattle.range_upgrades.specs.declared.upgrade.UpgradeError.TheVariants as upgrade
use Rattle.semver_ranges.specs.declared.range_set.RangeError.{RangeError}
use Rattle.semver_ranges.specs.declared.range_set.RangeError.TheVariants as range
use Rattle.semver_texts.specs.Texts.{Text}
use Rattle.semver_tokens.specs.ParserViews.{fixed_text}
use Rattle.semver_tokens.specs.declared.lexer.Error.{Error as LexerError}
use Rattle.semver_tokens.specs.declared.lexer.Error.TheVariants.{UnexpectedChar}
use Rattle.semver_tokens.specs.declared.parser.Error.{Error}
use Rattle.semver_tokens.specs.declared.parser.Error.TheVariants as parser
use Rattle.semver_ranges.specs.declared.dialect.Dialect.{Dialect}
use Rattle.tool_ranges.specs.declared.satisfying.SatisfiesError.{SatisfiesError}
use Rattle.tool_ranges.specs.declared.satisfying.SatisfiesError.TheVariants as satisfies
use Rattle.version_sets.specs.declared.set_operations.OperationError.{OperationError}
use Rattle.version_sets.specs.declared.set_operations.OperationError.TheVariants as operation
use Rattle.semver_errors.specs.ErrorValues.{CannotUpgrade, Converted, DifferentRules, ErrorValue}
use Rattle.semver_errors.specs.ErrorValues.{IsErrorOf, IsOrOutOfMemory, OutOfMemory}
use Rattle.semver_errors.specs.ErrorValues.{unexpected_character_text}

-- what the error of a range says about its text: that it is invalid, unless memory ran out
abbrev pub RejectsRange : Dialect → Text → RangeError → Type 0
RejectsRange d t range.OutOfMemory = Unit {0}
RejectsRange d t range.NotARange = ¬ (IsValid Range d t)
RejectsRange d t range.NumberTooLarge = ¬ (IsValid Range d t)

-- the error of a range with its text
abbrev pub IsRangeError : Dialect → Text → RangeError → ErrorValue → Type 0
IsRangeError d t range.OutOfMemory x = x ≡ OutOfMemory
IsRangeError d t range.NotARange x = IsErrorOf Range d t x
IsRangeError d t range.NumberTooLarge x = IsErrorOf Range d t x

-- what the error of a version and a range says about their texts
abbrev pub SatisfiesRejects : Dialect → (version t : Text) → SatisfiesError → Type 0
SatisfiesRejects d version t satisfies.InvalidVersion = ¬ (IsValid Version d version)
SatisfiesRejects d version t (satisfies.InvalidRange e) = RejectsRange d t e

-- the error of a version and a range with the text that is invalid
abbrev pub IsSatisfiesError : Dialect → (version t : Text) → SatisfiesError → ErrorValue → Type 0
IsSatisfiesError d version t satisfies.InvalidVersion x = IsErrorOf Version d version x
IsSatisfiesError d version t (satisfies.InvalidRange e) x = IsRangeError d t e x

-- the same for the errors of a requirement that is raised to a version
abbrev pub UpgradeRejects : Dialect → (version t : Text) → UpgradeError → Type 0
UpgradeRejects d version t upgrade.InvalidVersion = ¬ (IsValid Version d version)
UpgradeRejects d version t (upgrade.InvalidRange e) = RejectsRange d t e
UpgradeRejects d version t upgrade.CannotUpgrade = Unit {0}
UpgradeRejects d version t upgrade.OutOfMemory = Unit {0}

abbrev pub IsUpgradeError : Dialect → (version t : Text) → UpgradeError → ErrorValue → Type 0
IsUpgradeError d version t upgrade.InvalidVersion x = IsErrorOf Version d version x
IsUpgradeError d version t (upgrade.InvalidRange e) x = IsRangeError d t e x
IsUpgradeError d version t upgrade.CannotUpgrade x = IsOrOutOfMemory x (CannotUpgrade t)
IsUpgradeError d version t upgrade.OutOfMemory x = x ≡ OutOfMemory

-- the error of an operation on two ranges
abbrev pub operation_error : OperationError → ErrorValue
operation_error operation.DifferentMeanings = DifferentRules
operation_error operation.DifferentDigits = DifferentRules
operation_error operation.OutOfMemory = OutOfMemory

-- the error of a range of `semver-parser` 0.10, which doesn't have the text
abbrev pub converted_range : RangeError → ErrorValue
converted_range range.NotARange = Converted Range (codes "not a range")
converted_range range.NumberTooLarge = Converted Range (codes "number too large")
converted_range range.OutOfMemory = OutOfMemory

-- the error of a character that begins no token of a version
abbrev pub converted_lexer : LexerError → ErrorValue
converted_lexer (UnexpectedChar c) = Converted Version (unexpected_character_text c)

-- the error says of a version what the sentence of a parser's error says
abbrev pub IsSentenceOf : Error → ErrorValue → Type 0
IsSentenceOf e (Converted Version sentence) = IfSome (fixed_text e) (λ fixed. sentence ≡ fixed)
IsSentenceOf e OutOfMemory = Unit {0}
IsSentenceOf e _ = ⊥

-- the error of a version of `semver-parser` 0.10, which doesn't have the text
abbrev pub IsConvertedParser : Error → ErrorValue → Type 0
IsConvertedParser parser.OutOfMemory x = x ≡ OutOfMemory
IsConvertedParser e x = IsSentenceOf e x

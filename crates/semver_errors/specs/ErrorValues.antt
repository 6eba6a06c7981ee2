-- What an error says.
use Rattle.std.specs.Prelude.{◌≡◌, ◌≤◌, ◌++◌, ◌⊎◌, ℕ, Option, Some, None, [], codes, string_bytes}
use Rattle.std.specs.Str.{IsCharBoundary}
use Rattle.semver_texts.specs.Texts.{Text}
use Rattle.invalid_strings.specs.Escaping.{escaped_character}
use Rattle.invalid_strings.specs.declared.reasons.Reason.{Reason}
use Rattle.range_terms.specs.declared.term.Span.{Span}
use Rattle.repaired_strings.specs.Errors.{IsErrorAt, IsValid}
use Rattle.repaired_strings.specs.Repairs.{AreRepairs, IsBeyondRepair}
use Rattle.repaired_strings.specs.Spans.{IsSpanOf, kind_at}
use Rattle.repaired_strings.specs.declared.errors.Expected.{Expected}
use Rattle.repaired_strings.specs.declared.errors.Expected.TheVariants as expected
use Rattle.semver_ranges.specs.declared.dialect.Dialect.{Dialect}
use Rattle.semver_errors.specs.declared.error.Cause.{Cause}
use Rattle.semver_errors.specs.declared.error.Cause.TheVariants as cause
use Rattle.semver_errors.specs.declared.error.Kind.{Kind}
use Rattle.semver_errors.specs.declared.error.Kind.TheVariants as kind

-- where and why a text is invalid, and the part of it that the error is about
pub record Place : Type 0 where
  pub offset : ℕ
  pub reason : Reason
  pub span : Span

-- what an error says
pub data ErrorValue : Type 0 where
  -- the text is an invalid version or an invalid range in the dialect
  Invalid : Expected → Dialect → Text → Place → ErrorValue
  -- the range can't be raised to a version
  CannotUpgrade : (range : Text) → ErrorValue
  -- the name is unknown; the other text says which ones are known
  UnknownName : (name known : Text) → ErrorValue
  -- two ranges were read by different rules
  DifferentRules : ErrorValue
  -- a version or a range is invalid, as the sentence of another error says
  Converted : Expected → (sentence : Text) → ErrorValue
  -- an allocation failed
  OutOfMemory : ErrorValue

-- the sentence about a character that begins no token of a version
abbrev pub unexpected_character_text : (character : ℕ) → Text
unexpected_character_text c =
    codes "unexpected character '" ++ (escaped_character c ++ codes "'")

-- the value of an error
abbrev pub value_of : Cause → ErrorValue
value_of (cause.Invalid e d t offset reason span) =
    Invalid e d (string_bytes t) (record { offset = offset; reason = reason; span = span })
value_of (cause.CannotUpgrade t) = CannotUpgrade (string_bytes t)
value_of (cause.UnknownName name known) = UnknownName (string_bytes name) known.now
value_of cause.DifferentRules = DifferentRules
value_of (cause.Converted e sentence) = Converted e (string_bytes sentence)
value_of (cause.Fixed e sentence) = Converted e sentence.now
value_of (cause.UnexpectedCharacter c) =
    Converted expected.Version (unexpected_character_text c)
value_of cause.OutOfMemory = OutOfMemory

-- the span is between characters of the text
pub record IsBetweenCharacters (t : Text) (span : Span) : Type 0 where
  pub ordered : span.start ≤ span.end
  pub begins : IsCharBoundary t span.start
  pub ends : IsCharBoundary t span.end

-- the span of an error is between characters of its text
abbrev pub HasSpan : ErrorValue → Type 0
HasSpan (Invalid e d t place) = IsBetweenCharacters t place.span
HasSpan _ = Unit {0}

-- the kind of the error of an invalid text
abbrev pub invalid_kind : Expected → Kind
invalid_kind expected.Version = kind.InvalidVersion
invalid_kind expected.Range = kind.InvalidRange

abbrev pub kind_of : ErrorValue → Kind
kind_of (Invalid e d t place) = invalid_kind e
kind_of (CannotUpgrade t) = kind.CannotUpgrade
kind_of (UnknownName name known) = kind.UnknownName
kind_of DifferentRules = kind.DifferentRules
kind_of (Converted e sentence) = invalid_kind e
kind_of OutOfMemory = kind.OutOfMemory

-- the text that an error is about; without one, no bytes
abbrev pub text_of : ErrorValue → Text
text_of (Invalid e d t place) = t
text_of (CannotUpgrade t) = t
text_of (UnknownName name known) = name
text_of _ = []

-- where and why the text is invalid, if the error has the text
abbrev pub place_of : ErrorValue → Option Place
place_of (Invalid e d t place) = Some place
place_of _ = None

-- the error is that of this text, or out of memory: it has the place of the text's first error, and
-- the span of that place
abbrev pub IsErrorOf : Expected → Dialect → Text → ErrorValue → Type 0
IsErrorOf e d t (Invalid e' d' t' place) = (e' ≡ e) × (d' ≡ d) × (t' ≡ t)
    × IsErrorAt e d t place.offset place.reason
    × IsSpanOf t place.offset (kind_at t place.offset place.reason) place.span
IsErrorOf e d t OutOfMemory = Unit {0}
IsErrorOf e d t _ = ⊥

-- the error is this one, or out of memory
abbrev pub IsOrOutOfMemory : (error wanted : ErrorValue) → Type 0
IsOrOutOfMemory error wanted = (error ≡ wanted) ⊎ (error ≡ OutOfMemory)

-- the text is valid, and comes from that of the error by repairs of errors
abbrev pub IsSuggestion : ErrorValue → Text → Type 0
IsSuggestion (Invalid e d t place) s = IsValid e d s × AreRepairs e d t s
IsSuggestion _ s = ⊥

-- the repairs of the text end at an error for which nothing is known, or it isn't known
abbrev pub HasNoSuggestion : ErrorValue → Type 0
HasNoSuggestion (Invalid e d t place) = IsBeyondRepair e d t
HasNoSuggestion _ = Unit {0}

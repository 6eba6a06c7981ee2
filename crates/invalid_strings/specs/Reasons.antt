-- Why a text is not a version: the reason, from the longest prefix with which the text begins and
-- the byte after it, if there is one.
use Prim.Native.Char.{code}
use Rattle.std.specs.Prelude.{◌≡◌, ◌↔◌, ℕ, Bool, not, ◌&&◌, ◌||◌, ◌==◌, nat_lt, []}
use Rattle.std.specs.Prelude.{◌∷◌, ◌++◌, if◌then◌else◌, IsTrue, Option, Some, None, codes, length}
use Rattle.std.specs.Prelude.{reverse, slice_index}
use Rattle.std.specs.Char.{is_ascii_digit}
use Rattle.std.specs.List.{list_all}
use Rattle.semver_texts.specs.Texts.{Text, is_part_byte}
use Rattle.semver_texts.specs.WhiteSpace.{is_ascii_white_space}
use Rattle.semver_texts.specs.declared.grammar.Grammar.{Grammar}
use Rattle.semver_texts.specs.declared.grammar.Grammar.TheVariants as grammar
use Rattle.semver_versions.specs.AnyLength.{IsVersionAtAnyLength}
use Rattle.invalid_strings.specs.VersionPrefixes.{IsPrefixIn}
use Rattle.invalid_strings.specs.declared.reasons.Reason.{Reason}
use Rattle.invalid_strings.specs.declared.reasons.Reason.TheVariants.{Empty, NotThreeNumbers}
use Rattle.invalid_strings.specs.declared.reasons.Reason.TheVariants.{LeadingZero, EmptyIdentifier}
use Rattle.invalid_strings.specs.declared.reasons.Reason.TheVariants.{UnexpectedCharacter, TooLarge}
use Rattle.invalid_strings.specs.declared.reasons.Reason.TheVariants.{BoundTooLarge}
use Rattle.invalid_strings.specs.declared.reasons.Reason.TheVariants.{NpmBoundTooLarge}
use Rattle.invalid_strings.specs.declared.reasons.Reason.TheVariants.{NpmTooLarge, TooLong}
use Rattle.invalid_strings.specs.declared.reasons.Reason.TheVariants.{NumberExpected, TextAfter}
use Rattle.invalid_strings.specs.declared.reasons.Reason.TheVariants.{CargoV, CrateV}

-- ---- the prefix

-- the prefix with these bytes after it is a version, of any length
abbrev pub Completes : Grammar → Text → Text → Type 0
Completes grammar prefix more = IsVersionAtAnyLength grammar (prefix ++ more)

-- some versions begin with the text, but all of them are longer than the grammar allows
abbrev pub IsTooLong : Grammar → Text → Type 0
IsTooLong grammar text = ((more : Text) × Completes grammar text more) × ¬ (IsPrefixIn grammar text)

-- the byte with the index n, counted from the end; 0 if there is none
abbrev pub from_end : Text → ℕ → ℕ
from_end prefix n = slice_index (reverse prefix) n

abbrev pub has_no_digit : Text → Bool
has_no_digit prefix = list_all (λ b. not (is_ascii_digit b)) prefix

-- neither a number nor a `v` has begun
abbrev pub is_blank : Text → Bool
is_blank prefix = list_all (λ b. not (is_ascii_digit b || (b == code "v"))) prefix

abbrev pub ends_in_digit : Text → Bool
ends_in_digit prefix = is_ascii_digit (from_end prefix 0)

-- the prefix ends in a zero that has no digit before it
abbrev pub ends_in_zero : Text → Bool
ends_in_zero prefix = (from_end prefix 0 == code "0") && not (is_ascii_digit (from_end prefix 1))

-- the prefix ends in a letter, a digit or a hyphen
abbrev pub ends_in_part : Text → Bool
ends_in_part prefix = is_part_byte (from_end prefix 0)

-- ---- the byte after it

abbrev pub byte_at : Text → ℕ → Option ℕ
byte_at text offset = if nat_lt offset (length text) then Some (slice_index text offset) else None

abbrev pub byte_text : Option ℕ → Text
byte_text None = []
byte_text (Some b) = b ∷ []

-- a separator: `.`, `-`, `+` or ASCII white space
abbrev pub is_separator : ℕ → Bool
is_separator b = (b == code ".") || ((b == code "-") || ((b == code "+") || is_ascii_white_space b))

-- ---- the reason

-- the reason after fewer than three numbers: if the prefix ends in a number, others are missing;
-- otherwise a number is expected
abbrev pub missing_after : Text → Reason
missing_after prefix = if ends_in_digit prefix then NotThreeNumbers else NumberExpected

-- the reason for a number above the limit of a grammar
abbrev pub too_large_in : Grammar → Reason
too_large_in grammar.Crate = TooLarge
too_large_in grammar.Cargo = TooLarge
too_large_in grammar.Npm = NpmTooLarge

-- the reason for a raised bound above that limit
abbrev pub bound_too_large_in : Grammar → Reason
bound_too_large_in grammar.Crate = BoundTooLarge
bound_too_large_in grammar.Cargo = BoundTooLarge
bound_too_large_in grammar.Npm = NpmBoundTooLarge

-- the reason for a byte that no version has there. In Cargo's and the crate's grammars, a `v`
-- before the numbers has a reason of its own
abbrev pub unexpected_in : Grammar → Text → ℕ → Reason
unexpected_in grammar.Cargo prefix b =
    if (b == code "v") && is_blank prefix then CargoV else UnexpectedCharacter
unexpected_in grammar.Crate prefix b =
    if (b == code "v") && is_blank prefix then CrateV else UnexpectedCharacter
unexpected_in grammar.Npm prefix b = UnexpectedCharacter

-- the reason, from whether the prefix is a version of any length, whether it is one with the letter
-- `a` after it, whether it is one with a zero after it, and whether the prefix with the byte is too
-- long; and from the prefix and the byte
abbrev pub reason_by : Grammar → Bool → Bool → Bool → Bool → Text → Option ℕ → Reason
reason_by g version letter zero too_long prefix None = if is_blank prefix then Empty
    else (if not letter then missing_after prefix
    else (if zero then EmptyIdentifier else LeadingZero))
reason_by g version letter zero too_long prefix (Some b) = if too_long then TooLong
    else (if is_ascii_digit b && (ends_in_digit prefix && not letter) then
    (if ends_in_zero prefix then LeadingZero else too_large_in g)
    else (if version then
    (if is_ascii_white_space b || not (ends_in_part prefix) then TextAfter else UnexpectedCharacter)
    else (if not (is_separator b) then unexpected_in g prefix b
    else (if not letter then (if has_no_digit prefix then UnexpectedCharacter
    else missing_after prefix)
    else (if zero then EmptyIdentifier else LeadingZero)))))

-- the reason for a prefix and the byte after it, if there is one
pub record IsReason (grammar : Grammar) (prefix : Text) (next : Option ℕ) (reason : Reason) : Type 0
  where
    pub version : Bool
    pub letter : Bool
    pub zero : Bool
    pub too_long : Bool
    pub is_version : IsTrue version ↔ Completes grammar prefix []
    pub takes_letter : IsTrue letter ↔ Completes grammar prefix (codes "a")
    pub takes_zero : IsTrue zero ↔ Completes grammar prefix (codes "0")
    pub is_too_long : IsTrue too_long ↔ IsTooLong grammar (prefix ++ byte_text next)
    pub is : reason ≡ reason_by grammar version letter zero too_long prefix next

-- The part of a text that an error is about.
use Prim.Native.Char.{code}
use Rattle.std.specs.Prelude.{◌≡◌, ℕ, ◌-◌, ◌<◌, ◌≤◌, Bool, true, false, ◌&&◌, ◌||◌, ◌==◌, length}
use Rattle.std.specs.Prelude.{Option, Some, None, nat_le, nat_lt}
use Rattle.std.specs.Prelude.{if◌then◌else◌, slice_index}
use Rattle.std.specs.Char.{is_ascii_alphabetic, is_ascii_digit}
use Rattle.semver_texts.specs.Texts.{Text}
use Rattle.semver_texts.specs.WhiteSpace.{is_ascii_white_space}
use Rattle.invalid_strings.specs.Reasons.{byte_at}
use Rattle.invalid_strings.specs.declared.reasons.Reason.{Reason}
use Rattle.invalid_strings.specs.declared.reasons.Reason.TheVariants.{LeadingZero}
use Rattle.range_terms.specs.declared.term.Span.{Span}

-- whether a byte is a character of an operator, or of one that is written by mistake
abbrev pub is_sign : ℕ → Bool
is_sign b = (b == code "<") || ((b == code ">") || ((b == code "=") || ((b == code "~")
    || ((b == code "^") || ((b == code "!") || ((b == code "|") || (b == code "&")))))))

-- whether two bytes are of the same kind: digits, letters, characters of operators, white space,
-- bytes of characters beyond ASCII, or one and the same other byte
abbrev pub is_of_same_kind : ℕ → ℕ → Bool
is_of_same_kind b c =
    if is_ascii_digit b then is_ascii_digit c
    else (if is_ascii_alphabetic b then is_ascii_alphabetic c
    else (if is_sign b then is_sign c
    else (if is_ascii_white_space b then is_ascii_white_space c
    else (if nat_le 128 b then nat_le 128 c
    else (c == b)))))

-- the bytes around an offset that pass a test, as many as there are on both sides
pub record IsRunAround (p : ℕ → Bool) (t : Text) (k : ℕ) (span : Span) : Type 0 where
  pub start : span.start ≤ k
  pub end : k ≤ span.end
  pub within : span.end ≤ length t
  pub all : (i : ℕ) → span.start ≤ i → i < span.end → p (slice_index t i) ≡ true
  pub before : 0 < span.start → p (slice_index t (span.start - 1)) ≡ false
  pub after : span.end < length t → p (slice_index t span.end) ≡ false

-- whether a digit is right before or at an offset
abbrev pub touches_digit : Text → ℕ → Bool
touches_digit t k = (nat_lt 0 k && is_ascii_digit (slice_index t (k - 1)))
    || (nat_lt k (length t) && is_ascii_digit (slice_index t k))

-- a byte of the kind that an error at an offset is about: a digit for a leading zero, otherwise the
-- byte at the offset, if there is one
abbrev pub kind_at : Text → ℕ → Reason → Option ℕ
kind_at t k LeadingZero = if touches_digit t k then Some (code "0") else byte_at t k
kind_at t k _ = byte_at t k

-- the span of an error at an offset: the bytes of this kind around the offset; without a kind, no
-- bytes
abbrev pub IsSpanOf : Text → ℕ → Option ℕ → Span → Type 0
IsSpanOf t k None span = (span.start ≡ k) × (span.end ≡ k)
IsSpanOf t k (Some b) span = IsRunAround (is_of_same_kind b) t k span

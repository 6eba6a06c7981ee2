-- Texts as lists of bytes, and how they are joined.
use Prim.Native.Char.{code}
use Rattle.std.specs.Prelude.{◌≡◌, ℕ, ◌^◌, ◌<◌, Bool, true, false, ◌||◌, ◌==◌, List, [], ◌∷◌, ◌++◌}
use Rattle.std.specs.Prelude.{◌&&◌, ◌+◌, if◌then◌else◌, not, nat_lt, length, map, slice_index}
use Rattle.std.specs.Prelude.{IsTrue, decimal}
use Rattle.std.specs.Char.{is_ascii_alphanumeric, is_ascii_digit}
use Rattle.std.specs.List.{AllByRecursion, join_with_byte, list_all, slice_split}
use Rattle.std.specs.Str.{all_ascii_digits}
use Rattle.std.specs.Str.Parse.{digits_value}

-- a text: the list of its bytes
abbrev pub Text : Type 0
Text = List ℕ

-- whether a list has no element
abbrev pub is_empty : {X : Type 0} → List X → Bool
is_empty [] = true
is_empty (x ∷ xs) = false

-- a byte of an identifier in a version, or of a part in a range: an ASCII letter, a digit or a
-- hyphen
abbrev pub is_part_byte : ℕ → Bool
is_part_byte b = is_ascii_alphanumeric b || (b == code "-")

-- a part of a pre-release or of build metadata: one or more such bytes
abbrev pub is_part : Text → Bool
is_part t = not (is_empty t) && list_all is_part_byte t

-- a number of any size: `0`, or digits that don't begin with `0`
abbrev pub is_number : Text → Bool
is_number [] = false
is_number (first ∷ rest) =
    all_ascii_digits (first ∷ rest) && (is_empty rest || not (first == code "0"))

-- a number of 2^64 or more
abbrev pub is_large : Text → Bool
is_large t = is_number t && not (nat_lt (digits_value 10 t) (2 ^ 64))

-- whether a part has no leading zero, if it consists of digits. Any other part passes
abbrev pub has_no_leading_zero : Text → Bool
has_no_leading_zero part = not (all_ascii_digits part) || is_number part

-- a dot
abbrev pub is_dot : ℕ → Bool
is_dot b = b == code "."

-- a byte of parts joined by dots
abbrev pub is_dotted_byte : ℕ → Bool
is_dotted_byte b = is_part_byte b || is_dot b

-- the texts between the dots of a text; an empty text has none
abbrev pub cut_at_dots : Text → List Text
cut_at_dots [] = []
cut_at_dots (b ∷ t) = slice_split is_dot (b ∷ t)

-- whether a text begins with this byte
abbrev pub begins_with : ℕ → Text → Bool
begins_with b [] = false
begins_with b (c ∷ t) = c == b

-- a space, a tab, a line feed or a carriage return
abbrev pub is_space : ℕ → Bool
is_space b = (b == code " " || b == code "\t") || (b == code "\n" || b == code "\r")

-- one or more ASCII letters or digits
abbrev pub IsRun : List ℕ → Type 0
IsRun bytes = (0 < length bytes) × AllByRecursion (λ b. IsTrue (is_ascii_alphanumeric b)) bytes

-- the canonical decimal of a number below 2^64
abbrev pub IsNumber : List ℕ → Type 0
IsNumber bytes = (n : ℕ) × (n < 2 ^ 64) × (bytes ≡ decimal n)

-- the text begins with this number, and the rest after it doesn't begin with a digit
pub record BeginsWithNumber (text : Text) (n : ℕ) (rest : Text) : Type 0 where
  pub fits : n < 2 ^ 64
  pub split : text ≡ decimal n ++ rest
  pub ended : is_ascii_digit (slice_index rest 0) ≡ false

-- the text begins with these three numbers joined by dots, and the rest after them doesn't begin
-- with a digit
pub record BeginsWithNumbers (text : Text) (major minor patch : ℕ) (rest : Text) : Type 0 where
  pub major_fits : major < 2 ^ 64
  pub minor_fits : minor < 2 ^ 64
  pub patch_fits : patch < 2 ^ 64
  pub split : text ≡ join_with_byte 46 (map decimal (major ∷ minor ∷ patch ∷ [])) ++ rest
  pub ended : is_ascii_digit (slice_index rest 0) ≡ false

-- these texts, joined by another text
abbrev pub joined : Text → List Text → Text
joined between [] = []
joined between (t ∷ []) = t
joined between (t ∷ next ∷ others) = t ++ between ++ joined between (next ∷ others)

-- the mark, and then the parts joined by dots; nothing if there are no parts
abbrev pub marked : Text → List Text → Text
marked mark [] = []
marked mark (part ∷ parts) = mark ++ join_with_byte (code ".") (part ∷ parts)

-- the number of bytes that parts joined by dots have with a mark of one byte; 0 if there are none
abbrev pub marked_length : Text → ℕ
marked_length t = if is_empty t then 0 else length t + 1

-- The white space of JavaScript: U+0009 to U+000D and U+0020; U+00A0; U+1680, U+2000 to U+200A,
-- U+2028, U+2029, U+202F, U+205F, U+3000 and U+FEFF.
use Rattle.std.specs.Prelude.{◌≡◌, ℕ, Bool, false, ◌&&◌, ◌||◌, ◌==◌, if◌then◌else◌, List, [], ◌∷◌}
use Rattle.std.specs.Prelude.{IsTrue, take}
use Rattle.std.specs.Int.{is_in_range}
use Rattle.std.specs.List.{concat, list_all}
use Rattle.semver_texts.specs.Texts.{Text}

-- whether a byte is white space of ASCII
abbrev pub is_ascii_white_space : ℕ → Bool
is_ascii_white_space b = is_in_range 9 13 b || (b == 32)

-- whether these are the bytes of one white space character in UTF-8
abbrev pub is_white_space : Text → Bool
is_white_space (a ∷ []) = is_ascii_white_space a
is_white_space (a ∷ b ∷ []) = (a == 0xC2) && (b == 0xA0)
is_white_space (a ∷ b ∷ c ∷ []) = ((a == 0xE1) && ((b == 0x9A) && (c == 0x80)))
    || (((a == 0xE2) && (((b == 0x80) && (is_in_range 0x80 0x8A c
    || ((c == 0xA8) || ((c == 0xA9) || (c == 0xAF))))) || ((b == 0x81) && (c == 0x9F))))
    || (((a == 0xE3) && ((b == 0x80) && (c == 0x80)))
    || ((a == 0xEF) && ((b == 0xBB) && (c == 0xBF)))))
is_white_space _ = false

-- whether a character beyond ASCII is white space
abbrev pub is_white_space_beyond_ascii : ℕ → Bool
is_white_space_beyond_ascii c = (c == 0xA0) || ((c == 0x1680) || (is_in_range 0x2000 0x200A c
    || ((c == 0x2028) || ((c == 0x2029) || ((c == 0x202F) || ((c == 0x205F) || ((c == 0x3000)
    || (c == 0xFEFF))))))))

-- any number of white space characters, or none
pub record AreWhiteSpaces (text : Text) : Type 0 where
  pub each : List Text
  pub are : IsTrue (list_all is_white_space each)
  pub whole : text ≡ concat each

-- the number of bytes, from 1 to 3, of the character at the beginning of a text, if a test accepts
-- it; otherwise 0
abbrev pub size_at_front : (Text → Bool) → Text → ℕ
size_at_front takes text = if takes (take 1 text) then 1
    else (if takes (take 2 text) then 2 else if takes (take 3 text) then 3 else 0)

-- the number of bytes of the white space character at the beginning of a text; 0 if there is none
abbrev pub white_space_size : Text → ℕ
white_space_size text = size_at_front is_white_space text

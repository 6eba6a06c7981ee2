-- A string as it is shown in a message.
use Prim.Native.Char.{code}
use Rattle.std.specs.Prelude.{ℕ, false, ◌==◌, ◌++◌, if◌then◌else◌, [], ◌∷◌}
use Rattle.std.specs.Prelude.{codes, length}
use Rattle.std.specs.Int.{is_in_range}
use Rattle.std.specs.List.{flat_map, repeat}
use Rattle.std.specs.Str.{chars}
use Rattle.std.specs.Fmt.{digits}
use Rattle.semver_texts.specs.Texts.{Text}

-- a character beyond the printable ones of ASCII: its number in hexadecimal
abbrev pub by_number : ℕ → Text
by_number c = codes "\\u{" ++ digits 16 false c ++ codes "}"

-- a character as it is shown
abbrev pub escaped_character : ℕ → Text
escaped_character c =
    if c == code "\"" then codes "\\\""
    else (if c == code "\\" then codes "\\\\"
    else (if c == code "\t" then codes "\\t"
    else (if c == code "\n" then codes "\\n"
    else (if c == code "\r" then codes "\\r"
    else (if is_in_range 32 126 c then c ∷ []
    else by_number c)))))

abbrev pub escaped : Text → Text
escaped t = flat_map escaped_character (chars t)

-- a mark for each column that a text takes as it is shown
abbrev pub marks_below : (mark t : Text) → Text
marks_below mark t = repeat (length (escaped t)) mark

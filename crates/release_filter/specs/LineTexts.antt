-- The lines of a text, the text of a line, the maximum length of a text that has a version, and the
-- byte order mark.
use Rattle.std.specs.Prelude.{◌≡◌, ◌≢◌, ◌<◌, ◌^◌, ◌+◌, ◌&&◌, ◌==◌, ℕ, Bool, List, [], ◌∷◌, ◌++◌}
use Rattle.std.specs.Prelude.{All, if◌then◌else◌, length, map}
use Rattle.std.specs.Io.{StopsAt, IsEmptyOrEndsWith}
use Rattle.std.specs.Io.BufRead.{strip_last}
use Rattle.std.specs.List.{AllByRecursion, concat}
use Rattle.semver_texts.specs.Texts.{Text}
use Rattle.release_filter.specs.declared.line_texts.LineEnd.{LineEnd}
use Rattle.release_filter.specs.declared.line_texts.LineEnd.TheVariants.{LineFeed, ZeroByte}

-- the byte that ends a line
abbrev pub end_byte : LineEnd → ℕ
end_byte LineFeed = 10
end_byte ZeroByte = 0

-- adds a byte to the beginning of the first line
abbrev pub onto_first : ℕ → List Text → List Text
onto_first x [] = (x ∷ []) ∷ []
onto_first x (line ∷ lines) = (x ∷ line) ∷ lines

-- the lines of a text, each with the byte that ends it; the last may have none
abbrev pub lines_of : ℕ → Text → List Text
lines_of end [] = []
lines_of end (x ∷ xs) =
    if x == end then (x ∷ []) ∷ lines_of end xs else onto_first x (lines_of end xs)

-- the text of a line: without the line feed at its end, and then without one carriage return at its
-- end; or without the zero byte at its end
abbrev pub line_text : LineEnd → Text → Text
line_text LineFeed line = strip_last 13 (strip_last 10 line)
line_text ZeroByte line = strip_last 0 line

-- the maximum number of bytes of a text that has a version
abbrev pub longest_text : ℕ
longest_text = 2 ^ 20

-- the number of bytes of a line that show everything that is needed of it: a byte order mark, one
-- byte more than the longest text, and what ends a line
abbrev pub longest_front : ℕ
longest_front = longest_text + 6

-- the line with the byte that ends lines; if it is missing, it is added
abbrev pub ended : ℕ → Text → Text
ended end line = strip_last end line ++ end ∷ []

-- the lines of a text; if `closes` is true, a last line without an end gets one
abbrev pub lines_in : Bool → ℕ → Text → List Text
lines_in closes end text =
    if closes then map (λ line. ended end line) (lines_of end text) else lines_of end text

-- a line that has this byte at its end, and nowhere else
abbrev pub IsWholeLine : ℕ → Text → Type 0
IsWholeLine end line = (0 < length line) × StopsAt line end × IsEmptyOrEndsWith line end

-- the bytes are these lines, each with the byte that ends it, and then the beginning of another
pub record AreCut (end : ℕ) (bytes : Text) (lines : List Text) (unended : Text) : Type 0 where
  pub each : AllByRecursion (IsWholeLine end) lines
  pub no_end : All (λ b. b ≢ end) unended
  pub whole : bytes ≡ concat lines ++ unended

-- the text without the byte order mark at its beginning, if it has one
abbrev pub without_mark : Text → Text
without_mark (a ∷ b ∷ c ∷ text) =
    if (a == 0xEF) && ((b == 0xBB) && (c == 0xBF)) then text else a ∷ b ∷ c ∷ text
without_mark text = text

-- a line without its byte order mark, if it is the first line of a text
abbrev pub after_mark : Bool → Text → Text
after_mark at_front line = if at_front then without_mark line else line

-- lines without the byte order mark of the first one, if that is the first line of a text
abbrev pub marked_off : Bool → List Text → List Text
marked_off at_front [] = []
marked_off at_front (line ∷ lines) = after_mark at_front line ∷ lines

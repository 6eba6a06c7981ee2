-- What an error prints.
use Rattle.std.specs.Prelude.{◌++◌, [], ◌∷◌, codes, decimal, slice_range}
use Rattle.invalid_strings.specs.Escaping.{escaped, marks_below}
use Rattle.invalid_strings.specs.ReasonTable.{sentence_of}
use Rattle.invalid_strings.specs.declared.reasons.Reason.{Reason}
use Rattle.range_terms.specs.declared.term.Span.{Span}
use Rattle.repaired_strings.specs.declared.errors.Expected.{Expected}
use Rattle.semver_texts.specs.Texts.{Text}
use Rattle.semver_errors.specs.ErrorValues.{CannotUpgrade, Converted, DifferentRules, ErrorValue}
use Rattle.semver_errors.specs.ErrorValues.{Invalid, OutOfMemory, UnknownName, invalid_kind}
use Rattle.semver_errors.specs.declared.error.Kind.{Kind}
use Rattle.semver_errors.specs.declared.error.Kind.TheVariants as kind

-- with what the line of an error begins
abbrev pub kind_text : Kind → Text
kind_text kind.InvalidVersion = codes "invalid version"
kind_text kind.InvalidRange = codes "invalid range"
kind_text kind.CannotUpgrade = codes "the requirement can't be raised to this version"
kind_text kind.DifferentRules = codes "the ranges were read by different rules"
kind_text kind.UnknownName = codes "unknown name"
kind_text kind.OutOfMemory = codes "out of memory"

-- what `{}` prints: one line
abbrev pub line_of : ErrorValue → Text
line_of (Invalid e d t place) = kind_text (invalid_kind e) ++ (codes " \"" ++ (escaped t
    ++ (codes "\" at offset " ++ (decimal place.offset ++ (codes ": "
    ++ sentence_of place.reason)))))
line_of (CannotUpgrade t) =
    kind_text kind.CannotUpgrade ++ (codes ": \"" ++ (escaped t ++ codes "\""))
line_of (UnknownName name known) = kind_text kind.UnknownName ++ (codes " \"" ++ (escaped name
    ++ (codes "\": expected " ++ known)))
line_of DifferentRules = kind_text kind.DifferentRules
line_of (Converted e sentence) = kind_text (invalid_kind e) ++ (codes ": " ++ sentence)
line_of OutOfMemory = kind_text kind.OutOfMemory

-- a caret for each column of a part of a text, or one if the part is empty
abbrev pub carets_below : Text → Text
carets_below [] = codes "^"
carets_below (b ∷ t) = marks_below (codes "^") (b ∷ t)

-- the line below a text: spaces, and then carets for the span
abbrev pub caret_line : Text → Span → Text
caret_line t span = marks_below (codes " ") (slice_range t 0 span.start)
    ++ carets_below (slice_range t span.start span.end)

-- a reason, and the text in a line of its own, up to the line with carets
abbrev pub reason_lines : Expected → Reason → Text → Text
reason_lines e reason t = kind_text (invalid_kind e) ++ (codes ": " ++ (sentence_of reason
    ++ (codes "\n    " ++ (escaped t ++ codes "\n    "))))

-- an invalid text: the reason, then the text, and below it carets for the span
abbrev pub marked_text : Expected → Reason → Text → Span → Text
marked_text e reason t span = reason_lines e reason t ++ caret_line t span

-- what `{:#}` prints: an invalid text with carets below the span; otherwise the same line
abbrev pub marked_of : ErrorValue → Text
marked_of (Invalid e d t place) = marked_text e place.reason t place.span
marked_of (CannotUpgrade t) = line_of (CannotUpgrade t)
marked_of (UnknownName name known) = line_of (UnknownName name known)
marked_of DifferentRules = line_of DifferentRules
marked_of (Converted e sentence) = line_of (Converted e sentence)
marked_of OutOfMemory = line_of OutOfMemory

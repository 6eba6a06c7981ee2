-- What a program writes about the error of a range.
use Rattle.std.specs.Prelude.{◌++◌, ℕ, nat_lt, if◌then◌else◌, codes, decimal, Option, Some, None}
use Rattle.semver_parser.specs.Texts.{Text}
use Rattle.semver_parser.specs.declared.RangeError.{RangeError}
use Rattle.semver_parser.specs.declared.RangeError.TheVariants.{NotARange, NumberTooLarge}
use Rattle.semver_parser.specs.declared.RangeError.TheVariants.{OutOfMemory}
use Rattle.invalid_strings.specs.ReasonTable.{sentence_of}
use Rattle.invalid_ranges.specs.declared.refusals.Refusal.{Refusal}

-- the kind of the error
abbrev pub words_of : RangeError → Text
words_of NotARange = codes "not a range"
words_of NumberTooLarge = codes "number too large"
words_of OutOfMemory = codes "out of memory"

-- the offset of the error in a text of n bytes
abbrev pub place_of : ℕ → ℕ → Text
place_of offset n =
    if nat_lt offset n then codes "at offset " ++ decimal offset else codes "at the end"

-- the offset, and then the reason
abbrev pub why_of : Refusal → ℕ → Text
why_of r n = place_of r.offset n ++ (codes ": " ++ sentence_of r.reason)

-- the error in one line: its kind, the offset and the reason; only its kind if no offset and reason
-- were found
abbrev pub line_of : RangeError → Option Refusal → ℕ → Text
line_of error None n = words_of error
line_of error (Some r) n = words_of r.error ++ (codes " (" ++ (why_of r n ++ codes ")"))

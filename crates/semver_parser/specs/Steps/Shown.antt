-- A means of proof: what the report shows on a line, before it is written.
use Rattle.std.specs.Prelude.{Bool, true, false, string_bytes}
use Rattle.semver_texts.specs.Texts.{Text}
use Rattle.semver_parser.specs.declared.report.Shown.{Shown}
use Rattle.semver_parser.specs.declared.report.Shown.TheVariants.{Value, Word}

-- the bytes of what is shown
abbrev pub shown_text : Shown → Text
shown_text (Value text) = string_bytes text
shown_text (Word word) = word.now

-- whether a printed value is shown, and not a word
abbrev pub is_value_of : Shown → Bool
is_value_of (Value text) = true
is_value_of (Word word) = false

-- The reasons why a text is invalid, with a row for each.
use Rattle.std.specs.Prelude.{◌++◌, ℤ, pos, codes, decimal}
use Rattle.semver_texts.specs.NpmLimits.{max_build_length, max_length}
use Rattle.semver_texts.specs.Texts.{Text}
use Rattle.invalid_strings.specs.declared.reasons.Reason.{Reason}
use Rattle.invalid_strings.specs.declared.reasons.Reason.TheVariants as reason

-- the number of a reason in C, Python and JavaScript, its name for programs, and its sentence for
-- people
abbrev pub row_of : Reason → ℤ × Text × Text
row_of reason.Empty = (pos 1, codes "empty", codes "the string is empty")
row_of reason.NotThreeNumbers =
    (pos 2, codes "not-three-numbers", codes "there are fewer than three numbers")
row_of reason.LeadingZero = (
  pos 3,
  codes "leading-zero",
  codes "numbers and identifiers of digits may not have a leading zero",
)
row_of reason.EmptyIdentifier = (pos 4, codes "empty-identifier", codes "an identifier is empty")
row_of reason.UnexpectedCharacter =
    (pos 5, codes "unexpected-character", codes "unexpected character")
row_of reason.TooLarge = (pos 6, codes "too-large", codes "numbers are at most 2^64 - 1")
row_of reason.TooLong = (
  pos 7,
  codes "too-long",
  codes "npm takes no version above "
      ++ (decimal max_length
      ++ (codes " characters, and no build identifier above " ++ decimal max_build_length)),
)
row_of reason.TextAfter = (pos 8, codes "text-after", codes "text follows the version")
row_of reason.NotUtf8 = (pos 9, codes "not-utf8", codes "the string isn't UTF-8")
row_of reason.NumberExpected = (pos 10, codes "number-expected", codes "a number is expected")
row_of reason.UnexpectedEnd = (pos 11, codes "unexpected-end", codes "something is missing")
row_of reason.CargoCommas =
    (pos 12, codes "cargo-commas", codes "Cargo separates comparators by commas")
row_of reason.CargoWildcard =
    (pos 13, codes "cargo-wildcard", codes "Cargo takes * without numbers before it only alone")
row_of reason.CargoBars = (pos 14, codes "cargo-bars", codes "Cargo doesn't accept ||; npm does")
row_of reason.CargoV = (pos 15, codes "cargo-v", codes "Cargo doesn't accept a leading v; npm does")
row_of reason.CargoHyphen =
    (pos 16, codes "cargo-hyphen", codes "Cargo doesn't accept hyphen ranges; npm does")
row_of reason.NpmComma =
    (pos 17, codes "npm-comma", codes "npm separates comparators by spaces; Cargo takes commas")
row_of reason.CrateComma =
    (pos 18, codes "crate-comma", codes "the crate doesn't accept commas; Cargo does")
row_of reason.CrateV =
    (pos 19, codes "crate-v", codes "the crate doesn't accept a leading v; npm does")
row_of reason.NpmTooLarge =
    (pos 20, codes "npm-too-large", codes "npm's numbers are at most 2^53 - 1")
row_of reason.TooManyComparators =
    (pos 21, codes "too-many-comparators", codes "Cargo takes at most 32 comparators")
row_of reason.BoundTooLarge =
    (pos 22, codes "bound-too-large", codes "the bound above this number is above 2^64 - 1")
row_of reason.NpmBoundTooLarge = (
  pos 23,
  codes "npm-bound-too-large",
  codes "the bound above this number is above npm's limit of 2^53 - 1",
)

abbrev pub number_of : Reason → ℤ
number_of r = (row_of r).0

abbrev pub name_of : Reason → Text
name_of r = (row_of r).1

abbrev pub sentence_of : Reason → Text
sentence_of r = (row_of r).2

-- The values of versions and identifiers that are compared, as contracts see them.
use Rattle.std.specs.Prelude.{ℕ, List, [], Option, Some, None}
use Rattle.std.specs.Borrow.{Bor}
use Rattle.std.specs.List.{slice_split}
use Rattle.std.specs.Str.Parse.{digits_value}
use Rattle.semver_texts.specs.Texts.{Text, is_dot}
use Rattle.semver_texts.specs.Versions.{IdentifierValue, PlainVersion, numeric, alphanumeric}
use Rattle.semver_texts.specs.declared.precedence.IdentifierRef.{IdentifierRef}
use Rattle.semver_texts.specs.declared.precedence.IdentifierRef.TheVariants.{Numeric, LargeNumeric}
use Rattle.semver_texts.specs.declared.precedence.IdentifierRef.TheVariants.{AlphaNumeric}

-- the value of an identifier
abbrev pub ref_value : IdentifierRef → IdentifierValue
ref_value (Numeric n) = numeric n
ref_value (LargeNumeric number) = numeric (digits_value 10 number.digits.now)
ref_value (AlphaNumeric text) = alphanumeric text.now

-- the texts between the dots of the rest of a text; none if there is no rest
abbrev pub parts_after : Option (Bor Text) → List Text
parts_after None = []
parts_after (Some rest) = slice_split is_dot rest.now

-- the version with these three numbers and these identifiers of its pre-release
abbrev pub of_numbers : ℕ × ℕ × ℕ → List IdentifierValue → PlainVersion
of_numbers (major, minor, patch) pre =
    record { major = major; minor = minor; patch = patch; pre = pre }

-- How identifiers and versions are printed.
use Prim.Native.Char.{code}
use Rattle.std.specs.Prelude.{ℕ, ◌+◌, ◌^◌, ◌++◌, Bool, true, false, nat_lt, map, codes}
use Rattle.std.specs.Fmt.{decimal}
use Rattle.std.specs.Int.Digits.{digits_of}
use Rattle.std.specs.List.{join_with_byte}
use Rattle.semver_texts.specs.Texts.{Text, marked}
use Rattle.semver_texts.specs.Versions.{IdentifierValue, numeric, alphanumeric, PlainVersion}
use Rattle.semver_texts.specs.Versions.{VersionValue, numbers}

-- the canonical decimal of a number. The flag says whether it is below 2^64, since `decimal` is
-- only for numbers of up to 64 digits
abbrev pub numeral_by : Bool → ℕ → Text
numeral_by true n = decimal n
numeral_by false n = map (λ digit. code "0" + digit) (digits_of 10 n)

-- the canonical decimal of a number of any size
abbrev pub numeral : ℕ → Text
numeral n = numeral_by (nat_lt n (2 ^ 64)) n

-- the text of an identifier: the decimal of a number, or the text itself
abbrev pub identifier_text : IdentifierValue → Text
identifier_text (numeric n) = numeral n
identifier_text (alphanumeric t) = t

-- the text of a version without build metadata: three numbers joined by dots; then, if there is a
-- pre-release, `-` and its identifiers joined by dots
abbrev pub plain_text : PlainVersion → Text
plain_text v =
    join_with_byte (code ".") (map decimal (numbers v))
    ++ marked (codes "-") (map identifier_text v.pre)

-- the text of a version: first that without build metadata; then, if there is any, `+` and its
-- identifiers joined by dots
abbrev pub version_text : VersionValue → Text
version_text v = plain_text v.plain ++ marked (codes "+") (map identifier_text v.build)

-- Identifiers that consist of digits. From 2^64 on, the crate keeps them as texts. In SemVer 2.0.0,
-- Cargo and npm, they are numbers of any size.
use Rattle.std.specs.Prelude.{◌^◌, nat_lt, if◌then◌else◌, List, map}
use Rattle.std.specs.Str.Parse.{digits_value}
use Rattle.semver_texts.specs.Texts.{is_large}
use Rattle.semver_texts.specs.PrintedText.{numeral}
use Rattle.semver_texts.specs.Versions.{IdentifierValue, numeric, alphanumeric, PlainVersion}
use Rattle.semver_texts.specs.Versions.{VersionValue}
use Rattle.semver_texts.specs.declared.grammar.Digits.{Digits}
use Rattle.semver_texts.specs.declared.grammar.Digits.TheVariants.{Kept, AnySize}
use Rattle.semver_texts.specs.declared.grammar.Grammar.{Grammar}
use Rattle.semver_texts.specs.declared.grammar.Grammar.TheVariants.{Crate, Cargo, Npm}

-- how a grammar reads these identifiers
abbrev pub digits_in : Grammar → Digits
digits_in Crate = Kept
digits_in Cargo = AnySize
digits_in Npm = AnySize

-- a kept identifier, with its number instead of its text if it is a number of 2^64 or more
abbrev pub any_size : IdentifierValue → IdentifierValue
any_size (numeric n) = numeric n
any_size (alphanumeric t) = if is_large t then numeric (digits_value 10 t) else alphanumeric t

-- a kept identifier: unchanged with `Kept`, and with `AnySize` as above
abbrev pub identifier_by : Digits → IdentifierValue → IdentifierValue
identifier_by Kept id = id
identifier_by AnySize id = any_size id

-- kept identifiers, each read in this way
abbrev pub identifiers_by : Digits → List IdentifierValue → List IdentifierValue
identifiers_by Kept ids = ids
identifiers_by AnySize ids = map any_size ids

-- a kept version without build metadata, with its identifiers read in this way
abbrev pub plain_by : Digits → PlainVersion → PlainVersion
plain_by digits v = record {
  major = v.major;
  minor = v.minor;
  patch = v.patch;
  pre = identifiers_by digits v.pre;
}

-- a kept version, with its identifiers read in this way
abbrev pub version_by : Digits → VersionValue → VersionValue
version_by digits v =
    record { plain = plain_by digits v.plain; build = identifiers_by digits v.build }

-- an identifier as the crate keeps it: a number of 2^64 or more is kept as its text
abbrev pub as_kept : IdentifierValue → IdentifierValue
as_kept (numeric n) = if nat_lt n (2 ^ 64) then numeric n else alphanumeric (numeral n)
as_kept (alphanumeric t) = alphanumeric t

-- a version without build metadata, with its identifiers as the crate keeps them
abbrev pub plain_kept : PlainVersion → PlainVersion
plain_kept v =
    record { major = v.major; minor = v.minor; patch = v.patch; pre = map as_kept v.pre }

-- Which identifiers can be read back from their texts.
use Rattle.std.specs.Prelude.{Bool, true, not, ◌&&◌, ◌||◌, IsTrue}
use Rattle.std.specs.List.{list_all}
use Rattle.semver_texts.specs.Texts.{is_large}
use Rattle.semver_texts.specs.declared.grammar.Digits.{Digits}
use Rattle.semver_texts.specs.declared.grammar.Digits.TheVariants.{Kept, AnySize}
use Rattle.semver_ranges.specs.Partials.{fits_u64}
use Rattle.semver_ranges.specs.PrintedRanges.{is_kept}
use Rattle.semver_texts.specs.Versions.{IdentifierValue, numeric, alphanumeric, PlainVersion}
use Rattle.semver_texts.specs.Versions.{numbers}
use Rattle.version_sets.specs.VersionSets.{SetValue}

-- whether some part is read as the identifier, if its digits are read as a number of any size
abbrev pub is_kept_any : IdentifierValue → Bool
is_kept_any (numeric n) = true
is_kept_any (alphanumeric t) = is_kept (alphanumeric t) && not (is_large t)

abbrev pub is_kept_by : Digits → IdentifierValue → Bool
is_kept_by Kept id = is_kept id
is_kept_by AnySize id = is_kept_any id

-- whether the numbers of a version fit 64 bits, and its identifiers can be read back from their
-- texts, if those of digits are read in the given way
abbrev pub prints_by : Digits → PlainVersion → Bool
prints_by digits v = list_all fits_u64 (numbers v) && list_all (is_kept_by digits) v.pre

-- whether a version can be read back from its text in one of the two ways
abbrev pub is_printable_boundary : PlainVersion → Bool
is_printable_boundary v = prints_by Kept v || prints_by AnySize v

-- each boundary of the pre-releases can be read back from its text
abbrev pub IsPrintable : SetValue → Type 0
IsPrintable set = IsTrue (list_all is_printable_boundary set.pre_releases)

-- How comparators, ranges and sets are printed, and which sets are read back unchanged.
use Rattle.std.specs.Prelude.{◌≡◌, Bool, ◌&&◌, not, ◌++◌, map, codes, IsTrue, All}
use Rattle.std.specs.List.{list_all}
use Rattle.std.specs.Str.{all_ascii_digits}
use Rattle.std.specs.Str.Parse.{digits_value}
use Rattle.semver_ranges.specs.declared.range.Op.{Op}
use Rattle.semver_ranges.specs.declared.range.Op.TheVariants.{Lt, Lte, Gt, Gte, Eq}
use Rattle.semver_ranges.specs.declared.range.Compat.{Compat}
use Rattle.semver_texts.specs.Texts.{is_part}
use Rattle.semver_texts.specs.Texts.{Text, is_empty, joined}
use Rattle.semver_texts.specs.PrintedText.{plain_text}
use Rattle.semver_texts.specs.Versions.{numbers, IdentifierValue, numeric, alphanumeric}
use Rattle.semver_texts.specs.Versions.{PlainVersion}
use Rattle.semver_ranges.specs.Partials.{fits_u64}
use Rattle.semver_ranges.specs.RewritingTable.{PlainComparator, PlainRange, PlainSet}

-- the text of an operator
abbrev pub op_text : Op → Text
op_text Lt = codes "<"
op_text Lte = codes "<="
op_text Gt = codes ">"
op_text Gte = codes ">="
op_text Eq = codes "="

-- the text of a comparator: its operator, with its version right after it
abbrev pub comparator_text : PlainComparator → Text
comparator_text c = op_text c.op ++ plain_text c.version

-- the text of a range: its comparators, separated by one space
abbrev pub range_text : PlainRange → Text
range_text r = joined (codes " ") (map comparator_text r.comparators)

-- the text of a set: its ranges, separated by ` || `
abbrev pub set_text : PlainSet → Text
set_text s = joined (codes " || ") (map range_text s.ranges)

-- whether a part can be kept as this identifier: a number up to 2^64 - 1, or a part that isn't kept
-- as a number
abbrev pub is_kept : IdentifierValue → Bool
is_kept (numeric n) = fits_u64 n
is_kept (alphanumeric t) = is_part t && not (all_ascii_digits t && fits_u64 (digits_value 10 t))

-- whether the three numbers of a version are at most 2^64 - 1, and parts can be kept as the
-- identifiers of its pre-release
abbrev pub is_printable_version : PlainVersion → Bool
is_printable_version v = list_all fits_u64 (numbers v) && list_all is_kept v.pre

-- the range has this mode and at least one comparator, and the versions of all its comparators are
-- printable
abbrev pub IsPrintableRange : Compat → PlainRange → Type 0
IsPrintableRange mode r = IsTrue (not (is_empty r.comparators)) × (r.compat ≡ mode)
    × IsTrue (list_all (λ c. is_printable_version c.version) r.comparators)

-- the set has at least one range, and each of its ranges is printable and has the mode of the set
abbrev pub IsPrintableSet : PlainSet → Type 0
IsPrintableSet s = IsTrue (not (is_empty s.ranges)) × All (IsPrintableRange s.compat) s.ranges

-- A means of proof: cuts, which are positions in the order of versions, and intervals between two
-- of them.
use Rattle.std.specs.Prelude.{ℕ, Bool, true, false, ◌&&◌, not, Option, Some, None, map, take}
use Rattle.std.specs.Ordering.{nat_cmp, is_ge, is_gt}
use Rattle.std.specs.Cmp.Lexicographic.{slice_cmp}
use Rattle.std.specs.declared.cmp.Ordering.{Ordering}
use Rattle.semver_texts.specs.Digits.{plain_by}
use Rattle.semver_texts.specs.Precedence.{precedence}
use Rattle.semver_texts.specs.Texts.{cut_at_dots}
use Rattle.semver_texts.specs.Versions.{numbers, PlainVersion}
use Rattle.semver_texts.specs.declared.grammar.Digits.{Digits}
use Rattle.semver_ranges.specs.Partials.{kept}
use Rattle.version_sets.specs.declared.cut.Cut.{Cut}
use Rattle.version_sets.specs.declared.cut.Interval.{Interval}
use Rattle.semver_ranges.specs.Sides.{SideValue, below, at, past, above}
use Rattle.semver_ranges.specs.Steps.PartialViews.{side_value}

-- how the first n numbers of a version compare with those of another
abbrev pub first_numbers : ℕ → PlainVersion → PlainVersion → Ordering
first_numbers n v z = slice_cmp nat_cmp (take n (numbers v)) (take n (numbers z))

-- whether a version is above a cut at a side of z
abbrev pub is_above : SideValue → PlainVersion → PlainVersion → Bool
is_above below z v = is_ge (first_numbers 3 v z)
is_above at z v = is_ge (precedence v z)
is_above past z v = is_gt (precedence v z)
is_above (above n) z v = is_gt (first_numbers n v z)

-- whether a version is above a lower side; if there is none, every version is
abbrev pub is_above_lower : Option SideValue → PlainVersion → PlainVersion → Bool
is_above_lower None z v = true
is_above_lower (Some side) z v = is_above side z v

-- whether a version is above an upper side; if there is none, no version is
abbrev pub is_above_upper : Option SideValue → PlainVersion → PlainVersion → Bool
is_above_upper None z v = false
is_above_upper (Some side) z v = is_above side z v

-- whether a version is above the lower side and not above the upper one
abbrev pub is_between : Option SideValue × Option SideValue → PlainVersion → PlainVersion → Bool
is_between sides z v = is_above_lower sides.0 z v && not (is_above_upper sides.1 z v)

-- the version at which a cut is, with its identifiers of digits as they are kept
abbrev pub beside_kept : Cut → PlainVersion
beside_kept cut = record {
  major = cut.numbers.major;
  minor = cut.numbers.minor;
  patch = cut.numbers.patch;
  pre = map kept (cut_at_dots cut.pre.now);
}

-- the version at which a cut is, with its identifiers of digits as they are read
abbrev pub beside : Digits → Cut → PlainVersion
beside digits cut = plain_by digits (beside_kept cut)

-- whether a version is above a cut
abbrev pub is_above_cut : Digits → Cut → PlainVersion → Bool
is_above_cut digits cut v = is_above (side_value cut.side) (beside digits cut) v

-- whether a version is above a lower cut; if there is none, every version is
abbrev pub is_past_lower : Digits → Option Cut → PlainVersion → Bool
is_past_lower digits None v = true
is_past_lower digits (Some cut) v = is_above_cut digits cut v

-- whether a version is above an upper cut; if there is none, no version is
abbrev pub is_past_upper : Digits → Option Cut → PlainVersion → Bool
is_past_upper digits None v = false
is_past_upper digits (Some cut) v = is_above_cut digits cut v

-- whether a version is in an interval: above the lower cut and not above the upper one
abbrev pub is_in_interval : Digits → Interval → PlainVersion → Bool
is_in_interval digits interval v =
    is_past_lower digits interval.lower v && not (is_past_upper digits interval.upper v)

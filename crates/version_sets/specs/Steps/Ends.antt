-- A means of proof: which versions are in the intervals of ranges.
use Rattle.std.specs.Prelude.{Bool, if◌then◌else◌, map, nat_eq}
use Rattle.std.specs.Cmp.Lexicographic.{pointwise}
use Rattle.semver_texts.specs.Precedence.{precedence}
use Rattle.semver_texts.specs.Texts.{is_empty}
use Rattle.semver_texts.specs.Versions.{numbers, PlainVersion}
use Rattle.semver_texts.specs.declared.grammar.Digits.{Digits}
use Rattle.version_sets.specs.Printable.{prints_by}
use Rattle.version_sets.specs.Releases.{release_value}
use Rattle.version_sets.specs.Steps.EndPlaces.{end_place}
use Rattle.version_sets.specs.Steps.Spans.{in_some}
use Rattle.version_sets.specs.Steps.SpanViews.{bounds_hold, is_within, span_value}
use Rattle.version_sets.specs.Steps.SpanViews.{spans_hold}
use Rattle.version_sets.specs.declared.conjunction.Conjunction.{Conjunction}
use Rattle.version_sets.specs.declared.conjunction.Ranges.{Ranges}
use Rattle.version_sets.specs.declared.release.Release.{Release}

-- whether a version is in each interval of a range
abbrev pub in_each : Conjunction → PlainVersion → Bool
in_each range v = if is_empty v.pre then is_within release_value range.releases v
    else is_within end_place range.pre_releases v

-- whether a version is in at least one of the ranges
abbrev pub in_ranges : Ranges → PlainVersion → Bool
in_ranges ranges v =
    if is_empty v.pre
    then in_some precedence (map (span_value release_value) ranges.releases.items) v
    else in_some precedence (map (span_value end_place) ranges.pre_releases.items) v

-- whether a version has the numbers of a release
abbrev pub has_numbers : PlainVersion → Release → Bool
has_numbers v r = pointwise nat_eq (numbers v) (numbers (release_value r))

-- whether the bounds of the pre-releases in a range can be read back from their texts
abbrev pub each_prints : Digits → Conjunction → Bool
each_prints digits range = bounds_hold end_place (prints_by digits) range.pre_releases

-- whether the ends of all spans of pre-releases can be read back from their texts
abbrev pub ranges_print : Digits → Ranges → Bool
ranges_print digits ranges = spans_hold end_place (prints_by digits) ranges.pre_releases.items

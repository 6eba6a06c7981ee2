-- A means of proof: the values of borrowed comparators, and the text of ranges that follow others.
use Rattle.std.specs.Prelude.{List, [], ◌∷◌, ◌++◌, codes, flat_map, map, Option, Some, None}
use Rattle.semver_ranges.specs.RewritingTable.{PlainComparator, PlainRange, comparator}
use Rattle.semver_texts.specs.Texts.{Text}
use Rattle.semver_texts.specs.Digits.{identifiers_by}
use Rattle.semver_texts.specs.VersionViews.{identifier_value}
use Rattle.version_sets.specs.Releases.{release_value}
use Rattle.version_sets.specs.SetRanges.{range_text_by}
use Rattle.version_sets.specs.declared.comparators.IntervalComparators.{IntervalComparators}
use Rattle.version_sets.specs.declared.comparators.ComparatorRef.{ComparatorRef}

abbrev pub comparator_value : ComparatorRef → PlainComparator
comparator_value s = comparator s.op (record (release_value s.numbers) {
  pre = identifiers_by s.digits (map identifier_value s.pre.now);
})

abbrev pub others_value : Option ComparatorRef → List PlainComparator
others_value None = []
others_value (Some s) = comparator_value s ∷ []

abbrev pub interval_value : IntervalComparators → List PlainComparator
interval_value i = comparator_value i.first ∷ others_value i.second

-- the text of ranges that follow others, with ` || ` before each
abbrev pub others_text : Text → List PlainRange → Text
others_text joint ranges = flat_map (λ range. codes " || " ++ range_text_by joint range) ranges

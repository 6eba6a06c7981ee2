-- A means of proof, which no public clause cites: what is known of each version while the set of a
-- range text is built.
use Rattle.std.specs.Prelude.{◌≡◌, Bool, true, false, ◌||◌, Option, Some, None}
use Rattle.std.specs.List.{list_any}
use Rattle.semver_texts.specs.Versions.{PlainVersion}
use Rattle.semver_texts.specs.declared.grammar.Digits.{Digits}
use Rattle.version_sets.specs.Steps.Ends.{each_prints, has_numbers, in_each, in_ranges}
use Rattle.version_sets.specs.Steps.Ends.{ranges_print}
use Rattle.version_sets.specs.declared.release.Release.{Release}
use Rattle.tool_ranges.specs.declared.matching.Progress.{Progress}
use Rattle.tool_ranges.specs.declared.sets.Building.{Building}
use Rattle.tool_ranges.specs.Steps.Matching.{counts}

-- whether a version has the numbers of a release, if there is one
abbrev pub is_one_of : Option Release → PlainVersion → Bool
is_one_of None v = false
is_one_of (Some r) v = has_numbers v r

-- what is known of a version, in the form that it has if only one version is checked
abbrev pub known : Bool → PlainVersion → Building → Progress
known all v b = record {
  here = in_each b.here v;
  counts = counts all v || list_any (has_numbers v) b.stated.items;
  matches_all = b.matches_all;
  met = in_ranges b.ranges v;
  matched_all = b.matched_all;
}

-- the ends of the spans of pre-releases can be read back from their texts
pub record Prints (digits : Digits) (b : Building) : Type 0 where
  pub here : each_prints digits b.here ≡ true
  pub ranges : ranges_print digits b.ranges ≡ true

use Rattle.std.proofs.Common.{◌≡◌, true, ◌&&◌, ◌||◌, not, take}
use Rattle.std.specs.List.{list_any}
use Rattle.semver_texts.specs.Texts.{is_empty}
use Rattle.semver_texts.specs.Versions.{PlainVersion}
use Rattle.semver_texts.specs.declared.grammar.Digits.{Digits}
use Rattle.version_sets.specs.VersionSets.{Fits}
use Rattle.version_sets.specs.Steps.Ends.{each_prints, has_numbers, in_each, in_ranges, ranges_print}
use Rattle.tool_ranges.proofs.sets.push_pre_releases.Given as goal

abbrev pub invariant-loop-numbers : goal.invariant-loop-numbers
invariant-loop-numbers l =
    ((v : PlainVersion) → Fits v → in_ranges l.ranges v ≡ (in_ranges l.initial.ranges v || (not (is_empty v.pre)
    && (in_each l.here v && list_any (has_numbers v) (take l.numbers-index l.stated)))))
    × ((digits : Digits) → each_prints digits l.here ≡ true → ranges_print digits l.initial.ranges ≡ true → ranges_print digits l.ranges ≡ true)

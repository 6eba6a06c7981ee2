use Rattle.std.proofs.Common.{◌≡◌, true, List}
use Rattle.std.specs.List.{list_all}
use Rattle.semver_texts.specs.Texts.{Text}
use Rattle.semver_texts.specs.Versions.{PlainVersion}
use Rattle.semver_versions.specs.VersionRefs.{version_of}
use Rattle.semver_ranges.specs.RangeTree.{SetTree}
use Rattle.semver_ranges.specs.Steps.RangeEvents.{Event, event_fits}
use Rattle.version_sets.specs.VersionSets.{Fits}
use Rattle.tool_ranges.specs.declared.matching.Progress.{Progress}
use Rattle.tool_ranges.specs.Dialects.{SpellsAs}
use Rattle.semver_ranges.specs.DialectTable.{grammar_of}
use Rattle.semver_ranges.specs.Sides.{term_fits}
use Rattle.semver_ranges.specs.Steps.Checked.{HasEvents, size_after}
use Rattle.tool_ranges.specs.Steps.Checked.{IsCheckedAs}
use Rattle.tool_ranges.specs.Steps.TextEvents.{events_in, ranges_of}
use Rattle.tool_ranges.specs.Steps.Matching.{after, begun, counts, takes_all}
use Rattle.tool_ranges.proofs.ReachedVersions.{Knows}
use Rattle.tool_ranges.proofs.at_or_above.has_from.Given as goal

abbrev pub invariant-loop-event : goal.invariant-loop-event
invariant-loop-event l = (t : Text) → IsCheckedAs l.dialect t l.fn.checked
    → (tree : SetTree) × (left : List Event) × (progress : PlainVersion → Progress) × SpellsAs l.dialect tree t
    × HasEvents (grammar_of l.dialect) l.terms left × (list_all (event_fits (term_fits l.dialect)) left ≡ true)
    × ((v : PlainVersion) → Fits v
    → after l.dialect (takes_all l.rule) v (begun (counts (takes_all l.rule) v)) (events_in (ranges_of l.dialect tree))
    ≡ after l.dialect (takes_all l.rule) v (progress v) left)
    × Knows l.dialect l.rule (version_of l.version).plain l.here l.begin l.found l.matches_all l.matched_all progress left

abbrev pub decreases-loop-event : goal.decreases-loop-event
decreases-loop-event l = size_after l.terms

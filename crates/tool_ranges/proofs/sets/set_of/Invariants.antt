use Rattle.std.proofs.Common.{◌≡◌, true, List}
use Rattle.std.specs.List.{list_all}
use Rattle.semver_texts.specs.Digits.{digits_in}
use Rattle.semver_texts.specs.Texts.{Text}
use Rattle.semver_texts.specs.Versions.{PlainVersion}
use Rattle.semver_ranges.specs.Steps.RangeEvents.{Event, event_fits}
use Rattle.version_sets.specs.VersionSets.{Fits}
use Rattle.semver_ranges.specs.RangeTree.{SetTree}
use Rattle.tool_ranges.specs.Dialects.{SpellsAs}
use Rattle.semver_ranges.specs.DialectTable.{grammar_of}
use Rattle.tool_ranges.specs.Steps.Building.{known, Prints}
use Rattle.semver_ranges.specs.Steps.Checked.{HasEvents, size_after}
use Rattle.tool_ranges.specs.Steps.Checked.{IsCheckedAs}
use Rattle.tool_ranges.specs.Steps.TextEvents.{events_in, ranges_of}
use Rattle.tool_ranges.specs.Steps.Matching.{after, begun, counts}
use Rattle.semver_ranges.specs.Sides.{term_fits}
use Rattle.tool_ranges.proofs.sets.set_of.Given as goal

abbrev pub invariant-loop-event : goal.invariant-loop-event
invariant-loop-event l = ((t : Text) → IsCheckedAs l.dialect t l.fn.checked
    → (tree : SetTree) × (left : List Event) × SpellsAs l.dialect tree t
    × HasEvents (grammar_of l.dialect) l.checked left × (list_all (event_fits (term_fits l.dialect)) left ≡ true)
    × ((v : PlainVersion) → Fits v
    → after l.dialect l.all v (begun (counts l.all v)) (events_in (ranges_of l.dialect tree))
    ≡ after l.dialect l.all v (known l.all v l.building) left))
    × Prints (digits_in (grammar_of l.dialect)) l.building

abbrev pub decreases-loop-event : goal.decreases-loop-event
decreases-loop-event l = size_after l.checked

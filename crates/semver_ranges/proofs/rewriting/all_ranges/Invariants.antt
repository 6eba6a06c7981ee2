use Rattle.std.proofs.Common.{◌≡◌, ◌++◌, true, List, [], Some, map}
use Rattle.std.specs.List.{list_all}
use Rattle.semver_ranges.specs.DialectTable.{grammar_of, mode_of}
use Rattle.semver_ranges.specs.RangeViews.{comparator_of, range_of}
use Rattle.semver_ranges.specs.Sides.{term_fits}
use Rattle.semver_ranges.specs.TermComparators.{printed_term}
use Rattle.semver_ranges.specs.Steps.Answers.{ranges_by}
use Rattle.semver_ranges.specs.Steps.CursorViews.{HasLeft, size_left}
use Rattle.semver_ranges.specs.Steps.RangeEvents.{Event, event_fits}
use Rattle.semver_ranges.proofs.rewriting.all_ranges.Given as goal

abbrev pub invariant-loop-event : goal.invariant-loop-event
invariant-loop-event l = (es : List Event) → HasLeft (grammar_of l.dialect) l.fn.events (Some es)
    → list_all (event_fits (term_fits l.dialect)) es ≡ true
    → (left : List Event) × HasLeft (grammar_of l.dialect) l.events (Some left) × (list_all (event_fits (term_fits l.dialect)) left ≡ true)
    × (ranges_by (printed_term l.style l.dialect) (mode_of l.dialect) [] es
    ≡ map range_of l.ranges.items ++ ranges_by (printed_term l.style l.dialect) (mode_of l.dialect) (map comparator_of l.comparator_set.items) left)

abbrev pub decreases-loop-event : goal.decreases-loop-event
decreases-loop-event l = size_left l.events

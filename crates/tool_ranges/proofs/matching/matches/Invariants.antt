use Rattle.std.proofs.Common.{◌≡◌, true, List, Option}
use Rattle.semver_ranges.specs.Steps.RangeEvents.{Event}
use Rattle.semver_ranges.specs.DialectTable.{grammar_of}
use Rattle.semver_ranges.specs.Steps.CursorViews.{HasLeft, size_left}
use Rattle.tool_ranges.specs.Steps.TextEvents.{text_events}
use Rattle.tool_ranges.specs.Steps.Matching.{begun, counts, plain_of}
use Rattle.tool_ranges.proofs.MatchedEvents.{told}
use Rattle.tool_ranges.proofs.matching.matches.Given as goal

abbrev pub invariant-loop-event : goal.invariant-loop-event
invariant-loop-event l = (left : Option (List Event)) × HasLeft (grammar_of l.dialect) l.events left
    × (told l.dialect l.takes_all (plain_of l.version) true (begun (counts l.takes_all (plain_of l.version)))
    (text_events l.dialect l.range)
    ≡ told l.dialect l.takes_all (plain_of l.version) l.fit l.progress left)

abbrev pub decreases-loop-event : goal.decreases-loop-event
decreases-loop-event l = size_left l.events

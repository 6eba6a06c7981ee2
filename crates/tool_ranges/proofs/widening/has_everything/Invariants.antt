use Rattle.std.proofs.Common.{◌≡◌, true, ◌||◌, List}
use Rattle.std.specs.List.{list_all}
use Rattle.semver_ranges.specs.Steps.RangeEvents.{Event, event_fits}
use Rattle.semver_ranges.specs.DialectTable.{grammar_of}
use Rattle.semver_ranges.specs.Sides.{term_fits}
use Rattle.semver_ranges.specs.Steps.Checked.{HasEvents, size_after}
use Rattle.tool_ranges.specs.Steps.WidenedEvents.{has_everything}
use Rattle.tool_ranges.proofs.widening.has_everything.Given as goal

abbrev pub invariant-loop-event : goal.invariant-loop-event
invariant-loop-event l = (es : List Event) → HasEvents (grammar_of l.fn.dialect) l.fn.left es
    → list_all (event_fits (term_fits l.fn.dialect)) es ≡ true
    → (left : List Event) × HasEvents (grammar_of l.fn.dialect) l.terms left × (list_all (event_fits (term_fits l.fn.dialect)) left ≡ true)
    × (has_everything true es ≡ (l.matched_all || has_everything l.matches_all left))

abbrev pub decreases-loop-event : goal.decreases-loop-event
decreases-loop-event l = size_after l.terms

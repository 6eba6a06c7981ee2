use Rattle.std.proofs.Common.{◌≡◌, true, List}
use Rattle.std.specs.List.{list_all}
use Rattle.std.specs.Prelude.{◌↔◌}
use Rattle.semver_ranges.specs.Steps.RangeEvents.{Event, event_fits}
use Rattle.semver_ranges.specs.DialectTable.{grammar_of}
use Rattle.semver_ranges.specs.Sides.{term_fits}
use Rattle.semver_ranges.specs.Steps.Checked.{HasEvents, size_after}
use Rattle.tool_ranges.specs.Steps.WidenedEvents.{AreWidenedEvents}
use Rattle.tool_ranges.proofs.widening.are_widened.Given as goal

abbrev pub invariant-loop-event : goal.invariant-loop-event
invariant-loop-event l = (es fs : List Event) → HasEvents (grammar_of l.dialect) l.fn.old es → HasEvents (grammar_of l.dialect) l.fn.new fs
    → list_all (event_fits (term_fits l.dialect)) es ≡ true → list_all (event_fits (term_fits l.dialect)) fs ≡ true
    → (left right : List Event) × HasEvents (grammar_of l.dialect) l.terms left × HasEvents (grammar_of l.dialect) l.others right
    × (list_all (event_fits (term_fits l.dialect)) left ≡ true) × (list_all (event_fits (term_fits l.dialect)) right ≡ true)
    × (AreWidenedEvents es fs ↔ AreWidenedEvents left right)

abbrev pub decreases-loop-event : goal.decreases-loop-event
decreases-loop-event l = size_after l.terms

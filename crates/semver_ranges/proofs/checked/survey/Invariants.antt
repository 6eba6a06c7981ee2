use Rattle.std.proofs.Common.{◌≡◌, List, Option}
use Rattle.semver_ranges.specs.DialectTable.{grammar_of}
use Rattle.semver_ranges.specs.Sides.{term_fits}
use Rattle.semver_ranges.specs.Steps.CursorViews.{HasLeft, size_left}
use Rattle.semver_ranges.specs.Steps.RangeEvents.{Event}
use Rattle.semver_ranges.proofs.EventSums.{fitted}
use Rattle.semver_ranges.proofs.checked.survey.Given as goal

abbrev pub invariant-loop-event : goal.invariant-loop-event
invariant-loop-event l = (o : Option (List Event)) → HasLeft (grammar_of l.dialect) l.fn.rest o
    → (left : Option (List Event)) × HasLeft (grammar_of l.dialect) l.rest left
    × (fitted (term_fits l.dialect) l.fn.fit o ≡ fitted (term_fits l.dialect) l.fit left)

abbrev pub decreases-loop-event : goal.decreases-loop-event
decreases-loop-event l = size_left l.rest

use Rattle.std.proofs.Common.{◌≡◌, ◌≤◌, ◌+◌, length}
use Rattle.semver_ranges.specs.Steps.FoundItems.{size_at}
use Rattle.range_terms.specs.Steps.{terms_left}
use Rattle.range_terms.proofs.terms.next_term.Given as goal

-- no term was given so far
abbrev pub invariant-loop-event : goal.invariant-loop-event
invariant-loop-event l =
    (terms_left l.grammar l.len l.initial.range l.initial.cursor ≡ terms_left l.grammar l.len l.range l.cursor)
    × (l.range + length l.cursor.rest.now ≤ l.len)

abbrev pub decreases-loop-event : goal.decreases-loop-event
decreases-loop-event l = size_at l.cursor.begins_range l.cursor.rest.now

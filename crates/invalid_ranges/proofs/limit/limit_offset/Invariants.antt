use Rattle.std.proofs.Common.{◌≡◌, ◌≤◌, length}
use Rattle.std.specs.List.{filter_map}
use Rattle.semver_ranges.specs.Steps.FoundItems.{items_left, size_at}
use Rattle.invalid_ranges.specs.TooLarge.{offset_in_item}
use Rattle.invalid_ranges.proofs.limit.limit_offset.Given as goal

-- no number so far was too large
abbrev pub invariant-loop-event : goal.invariant-loop-event
invariant-loop-event l =
    (filter_map (offset_in_item l.dialect (length l.text)) (items_left l.grammar l.initial.cursor.begins_range l.initial.cursor.rest.now)
    ≡ filter_map (offset_in_item l.dialect (length l.text)) (items_left l.grammar l.cursor.begins_range l.cursor.rest.now))
    × (length l.cursor.rest.now ≤ length l.text)

abbrev pub decreases-loop-event : goal.decreases-loop-event
decreases-loop-event l = size_at l.cursor.begins_range l.cursor.rest.now

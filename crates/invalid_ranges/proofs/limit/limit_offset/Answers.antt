use Rattle.std.proofs.Common.{◌≤◌, None, length, refl, sym, ◌∙◌}
use Rattle.semver_ranges.specs.RangeTree.{is_blank}
use Rattle.semver_ranges.proofs.ItemSteps.{left_next}
use Rattle.semver_ranges.proofs.ReadingSteps.{back_shorter}
use Rattle.invalid_ranges.proofs.FirstOffsets.{found, none_left}
use Rattle.invalid_ranges.proofs.limit.limit_offset.Goals as goal

pub loop-event-init : goal.loop-event-init
loop-event-init c =
    let short : length c.new-cursor.result.rest.now ≤ length c.args.text.now = rw (c.new-cursor.ensures.rest, c.as_bytes.ensures.value)
    (back_shorter (is_blank c.grammar-grammar.result) c.args.text.now) in
    (refl, short)

pub returns-in-Some-offset_in_event-clause-value : goal.returns-in-Some-offset_in_event-clause-value
returns-in-Some-offset_in_event-clause-value c =
    let before = c.loop-event.cursor in
    let g = c.grammar-grammar in
    let first = c.new-cursor in
    let given = rw c.in-Ok.is at c.in-Some.ensures in
    found c.args.dialect c.args.text.now g.result g.ensures.grammar first.result first.ensures.begins
    (rw c.as_bytes.ensures.value at first.ensures.rest) before c.loop-event.invariant.0 given.x _ given.whole c.in-Some-offset_in_event.offset
    (sym c.in-Some-offset_in_event.is ∙ c.offset_in_event.ensures.value g.result (length before.rest.now) given.x given.is)

pub returns-in_default-event-clause-value : goal.returns-in_default-event-clause-value
returns-in_default-event-clause-value c =
    let before = c.loop-event.cursor in
    let g = c.grammar-grammar in
    let first = c.new-cursor in
    let gone = rw c.in_default-event.is at c.in-Some.ensures in
    none_left c.args.dialect c.args.text.now g.result g.ensures.grammar first.result first.ensures.begins
    (rw c.as_bytes.ensures.value at first.ensures.rest) before c.loop-event.invariant.0
    (left_next g.result before.begins_range before.rest.now None gone.0.found)

pub returns-clause-value : goal.returns-clause-value
returns-clause-value c =
    let g = c.grammar-grammar in
    let first = c.new-cursor in
    let gone = rw c.in_default.is at c.next_in.ensures in
    none_left c.args.dialect c.args.text.now g.result g.ensures.grammar first.result first.ensures.begins
    (rw c.as_bytes.ensures.value at first.ensures.rest) c.loop-event.cursor c.loop-event.invariant.0 (rw (gone.0.0, gone.0.1) refl)

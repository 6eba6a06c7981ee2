use Rattle.std.proofs.Common.{◌∙◌, arith}
use Rattle.semver_ranges.specs.Steps.RangeEvents.{events_left}
use Rattle.semver_ranges.proofs.events.Events.next_in.Goals as goal

pub view-requires : goal.view-requires
view-requires c = let taken = rw c.in-Ok.is at c.in_ok-event.ensures in (c.args.grammar, _, taken.x, taken.is)

pub returns-in-Ok-clause-gives : goal.returns-in-Ok-clause-gives
returns-in-Ok-clause-gives c = λ o has.
    let taken = rw c.in-Ok.is at c.in_ok-event.ensures in
    let after = c.next_in.new.self in
    let viewed = (c.view.ensures c.args.grammar _ taken.x taken.is).0 (events_left c.args.grammar after.begins_range after.rest.now) in
    (viewed.0, viewed.1, viewed.2, viewed.3, (rw c.in_default.is at has) ∙ taken.left ∙ viewed.4)

pub returns-in-Err-clause-fewer : goal.returns-in-Err-clause-fewer
returns-in-Err-clause-fewer c =
    let none = rw c.in-Err.is at c.in_ok-event.ensures in
    rw (none.2.0, none.2.1) (omega (arith, none.3))

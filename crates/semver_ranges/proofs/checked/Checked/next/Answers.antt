use Rattle.semver_ranges.proofs.CheckedEvents.{next_given}
use Rattle.semver_ranges.proofs.checked.Checked.next.Goals as goal

pub returns-in-Some-Ok-clause-gives : goal.returns-in-Some-Ok-clause-gives
returns-in-Some-Ok-clause-gives c = λ left has.
    let given = c.next_in.ensures.gives _ (rw c.in_default.is at has) in
    rw c.in_default.is (next_given c.args.grammar left c.in-Some-Ok.event c.next_in.new.self (rw (c.in-Some-Ok.is, c.in-Some-Ok.field-0-is) at given))

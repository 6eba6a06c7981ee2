use Rattle.repaired_strings.proofs.Chains.{one_more}
use Rattle.repaired_strings.proofs.repairs.repaired.Goals as goal

pub loop-preserved : goal.loop-preserved
loop-preserved c =
    let next = rw c.in-Some-2.is at c.in_ok-next.ensures in
    one_more c.args.expected c.args.dialect c.loop.counter c.args.text.now _ _ c.loop.invariant
    (rw c.as_str-in-loop.ensures.value at next)

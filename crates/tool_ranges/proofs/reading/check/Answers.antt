use Rattle.tool_ranges.proofs.ReadTrees.{answered_as, refused_as}
use Rattle.tool_ranges.proofs.reading.check.Goals as goal

pub returns-in-Ok-clause-refusals : goal.returns-in-Ok-clause-refusals
returns-in-Ok-clause-refusals c = let read = c.in-Ok.ensures in
    answered_as c.args.dialect c.args.range.now _ read.0 read.1 read.2

pub returns-in-Err-clause-refusals : goal.returns-in-Err-clause-refusals
returns-in-Err-clause-refusals c = refused_as c.args.dialect c.args.range.now c.in-Err.refusal c.in-Err.ensures

use Rattle.std.proofs.Common.{arith, rules}
use Rattle.std.proofs.lemmas.Grind.{common_steps}
use Rattle.release_filter.proofs.selection.append.Goals as goal

pub loop-indexed-init : goal.loop-indexed-init
loop-indexed-init c = search rules

pub loop-indexed-preserved : goal.loop-indexed-preserved
loop-indexed-preserved c = grind (arith, common_steps)

pub returns-in-Err-clause-unchanged : goal.returns-in-Err-clause-unchanged
returns-in-Err-clause-unchanged c = grind (arith, common_steps)

pub returns-clause-appends : goal.returns-clause-appends
returns-clause-appends c = grind (arith, common_steps)

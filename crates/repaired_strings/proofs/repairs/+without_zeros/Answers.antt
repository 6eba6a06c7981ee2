use Rattle.repaired_strings.proofs.Chains.{no_zero}
use Rattle.repaired_strings.proofs.repairs.+without_zeros.Goals as goal

pub returns-in_default : goal.returns-in_default
returns-in_default t c = no_zero c.args.number.now c.in_default.ensures.cases

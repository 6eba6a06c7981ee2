use Rattle.repaired_strings.proofs.OneRepair.{one_span}
use Rattle.repaired_strings.proofs.laws.one_span.Goals as goal

pub returns : goal.returns
returns c = one_span

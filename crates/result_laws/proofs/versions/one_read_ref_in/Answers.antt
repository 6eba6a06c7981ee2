use Rattle.result_laws.proofs.OneResult.{one_found}
use Rattle.result_laws.proofs.versions.one_read_ref_in.Goals as goal

pub returns : goal.returns
returns c = record { one = one_found _ _ _ c.read_ref_in.ensures.borrowed c.read_ref_in-2.ensures.borrowed }

use Rattle.result_laws.proofs.VersionResults.{one_read}
use Rattle.result_laws.proofs.versions.one_read.Goals as goal

pub returns : goal.returns
returns c = record { one = one_read _ _ _ c.read.ensures.exact c.read-2.ensures.exact }

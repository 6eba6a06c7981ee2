use Rattle.result_laws.proofs.VersionResults.{one_read}
use Rattle.result_laws.proofs.versions.one_read_bytes.Goals as goal

pub returns : goal.returns
returns c = record { one = one_read _ _ _ c.read_bytes.ensures.exact c.read_bytes-2.ensures.exact }

use Rattle.result_laws.proofs.VersionResults.{one_number}
use Rattle.result_laws.proofs.texts.one_whole_number.Goals as goal

pub returns : goal.returns
returns c = record { one = one_number _ _ _ c.whole_number.ensures c.whole_number-2.ensures }

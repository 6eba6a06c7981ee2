use Rattle.result_laws.proofs.VersionResults.{one_numbers}
use Rattle.result_laws.proofs.texts.one_numbers.Goals as goal

pub returns : goal.returns
returns c = record { one = one_numbers c.args.bytes.now _ _ c.numbers.ensures c.numbers-2.ensures }

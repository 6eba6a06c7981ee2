use Rattle.result_laws.proofs.VersionResults.{one_numbers}
use Rattle.result_laws.proofs.texts.one_numbers_at_digit.Goals as goal

pub returns : goal.returns
returns c = record { one = one_numbers c.args.bytes.now _ _ c.numbers_at_digit.ensures c.numbers_at_digit-2.ensures }

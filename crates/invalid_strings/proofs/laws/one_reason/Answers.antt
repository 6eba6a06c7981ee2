use Rattle.invalid_strings.proofs.VersionLaws.{one_reason}
use Rattle.invalid_strings.proofs.laws.one_reason.Goals as goal

pub returns : goal.returns
returns c = record { same_reason = one_reason }

use Rattle.invalid_ranges.proofs.RangeReasons.{one_reason}
use Rattle.invalid_ranges.proofs.laws.one_reason.Goals as goal

pub returns : goal.returns
returns c = record { same_reason = one_reason }

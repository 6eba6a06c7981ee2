use Rattle.invalid_ranges.proofs.Places.{one_limit}
use Rattle.invalid_ranges.proofs.laws.one_limit_offset.Goals as goal

pub returns : goal.returns
returns c = record { same_offset = one_limit }

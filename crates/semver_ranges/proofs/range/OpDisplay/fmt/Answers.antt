use Rattle.std.proofs.Common.{rules}
use Rattle.std.proofs.Output.{has_written_of_eq}
use Rattle.semver_ranges.proofs.range.OpDisplay.fmt.Goals as goal

pub returns-clause-writes : goal.returns-clause-writes
returns-clause-writes g c = λ plain ok. has_written_of_eq _ _ _ _ _ (search rules) (c.write_str.ensures.writes plain ok)

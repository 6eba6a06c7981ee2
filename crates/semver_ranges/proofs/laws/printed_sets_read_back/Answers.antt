use Rattle.std.proofs.Common.{[]}
use Rattle.semver_ranges.proofs.PrintedLaws.{printed_again}
use Rattle.semver_ranges.proofs.laws.printed_sets_read_back.Goals as goal

pub returns : goal.returns
returns c = record { read_back = printed_again [] }

use Rattle.semver_ranges.proofs.AnsweredLaws.{rewritten_printable}
use Rattle.semver_ranges.proofs.laws.returned_sets_are_printable.Goals as goal

pub returns : goal.returns
returns c = record { printable = rewritten_printable }

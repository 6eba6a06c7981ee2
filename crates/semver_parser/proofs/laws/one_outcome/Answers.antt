use Rattle.semver_parser.proofs.WholeText.{one_outcome}
use Rattle.semver_parser.proofs.laws.one_outcome.Goals as goal

pub returns : goal.returns
returns c = record { same_outcome = one_outcome }

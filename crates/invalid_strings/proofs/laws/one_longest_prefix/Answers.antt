use Rattle.invalid_strings.proofs.VersionLaws.{one_longest}
use Rattle.invalid_strings.proofs.laws.one_longest_prefix.Goals as goal

pub returns : goal.returns
returns c = record { same_offset = one_longest }

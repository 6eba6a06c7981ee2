use Rattle.semver_versions.proofs.ReadTexts.{one_version_in}
use Rattle.semver_versions.proofs.laws.one_version_in.Goals as goal

pub returns : goal.returns
returns c = record { same_version = one_version_in }

use Rattle.semver_versions.proofs.OneVersion.{one_version}
use Rattle.semver_versions.proofs.laws.one_version.Goals as goal

pub returns : goal.returns
returns c = record { same_version = one_version }

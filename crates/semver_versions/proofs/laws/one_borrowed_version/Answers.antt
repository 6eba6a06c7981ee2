use Rattle.semver_versions.proofs.DialectVersionRefs.{its_version_in, same_version_ref}
use Rattle.semver_versions.proofs.laws.one_borrowed_version.Goals as goal

pub returns : goal.returns
returns c = record { same_version = its_version_in; same_version_ref = same_version_ref }

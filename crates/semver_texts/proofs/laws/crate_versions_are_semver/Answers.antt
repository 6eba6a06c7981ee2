use Rattle.semver_texts.proofs.SpelledVersions.{core_is_semver}
use Rattle.semver_texts.proofs.laws.crate_versions_are_semver.Goals as goal

pub returns : goal.returns
returns c = core_is_semver

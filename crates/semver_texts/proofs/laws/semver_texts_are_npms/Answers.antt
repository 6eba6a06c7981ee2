use Rattle.semver_texts.proofs.SpelledVersions.{semver_is_npm}
use Rattle.semver_texts.proofs.laws.semver_texts_are_npms.Goals as goal

pub returns : goal.returns
returns c = semver_is_npm

use Rattle.semver_ranges.proofs.StatedLaws.{some_stated, as_stated_means, stated_releases}
use Rattle.semver_ranges.proofs.laws.stated_pre_releases_mean_the_text.Goals as goal

pub returns-clause-exact : goal.returns-clause-exact
returns-clause-exact c = some_stated

pub returns-clause-implied : goal.returns-clause-implied
returns-clause-implied c = as_stated_means

pub returns-clause-releases : goal.returns-clause-releases
returns-clause-releases c = stated_releases

use Rattle.semver_ranges.proofs.Meanings.{some_agrees, own_meaning_meets, agree_on_releases}
use Rattle.semver_ranges.proofs.laws.meanings_agree.Goals as goal

pub returns-clause-exact : goal.returns-clause-exact
returns-clause-exact c = some_agrees

pub returns-clause-implied : goal.returns-clause-implied
returns-clause-implied c = own_meaning_meets

pub returns-clause-releases : goal.returns-clause-releases
returns-clause-releases c = agree_on_releases

use Rattle.semver_ranges.proofs.ExactLaws.{some_means, below_bound}
use Rattle.semver_ranges.proofs.laws.exact_bounds_mean_the_text.Goals as goal

pub returns-clause-exact : goal.returns-clause-exact
returns-clause-exact c = some_means

pub returns-clause-bounds : goal.returns-clause-bounds
returns-clause-bounds c = below_bound

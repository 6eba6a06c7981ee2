use Rattle.semver_versions.specs.Steps.SameParts.{to_parts}
use Rattle.semver_versions.proofs.SameParts.{from_parts}
use Rattle.semver_versions.proofs.laws.order_is_total.Goals as goal
use Rattle.semver_versions.specs.Steps.OrderLaws.{order_total}

pub returns-clause-total : goal.returns-clause-total
returns-clause-total c = order_total

pub returns-clause-same : goal.returns-clause-same
returns-clause-same c = λ a b. (to_parts a b, from_parts a b)

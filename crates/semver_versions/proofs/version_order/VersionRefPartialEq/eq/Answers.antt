use Rattle.std.proofs.Common.{rules}
use Rattle.semver_versions.proofs.SameParts.{decided}
use Rattle.semver_versions.proofs.version_order.VersionRefPartialEq.eq.Goals as goal

pub returns-then-eq-clause-value : goal.returns-then-eq-clause-value
returns-then-eq-clause-value c = decided c.args.self.now c.args.other.now c.eq-then-eq.result (search (rules))

pub returns-else-eq-clause-value : goal.returns-else-eq-clause-value
returns-else-eq-clause-value c = decided c.args.self.now c.args.other.now c.if-self-other-3.value (search (rules))

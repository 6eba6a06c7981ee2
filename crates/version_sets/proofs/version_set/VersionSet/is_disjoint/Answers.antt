use Rattle.version_sets.proofs.SameSets.{tells_apart, witness}
use Rattle.version_sets.proofs.version_set.VersionSet.is_disjoint.Goals as goal

pub returns-clause-disjoint : goal.returns-clause-disjoint
returns-clause-disjoint c = tells_apart c.args.self.now c.args.other.now c.keeps_some.result c.keeps_some.ensures

pub returns-clause-witness : goal.returns-clause-witness
returns-clause-witness c = witness c.keeps_some.result c.keeps_some.ensures

use Rattle.version_sets.proofs.SameSets.{tells_within, witness}
use Rattle.version_sets.proofs.version_set.VersionSet.is_subset.Goals as goal

pub returns-clause-subset : goal.returns-clause-subset
returns-clause-subset c = tells_within c.args.self.now c.args.other.now c.keeps_some.result c.keeps_some.ensures

pub returns-clause-witness : goal.returns-clause-witness
returns-clause-witness c = witness c.keeps_some.result c.keeps_some.ensures

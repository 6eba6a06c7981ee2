use Rattle.std.proofs.Common.{subst}
use Rattle.semver_texts.specs.ToolVersions.{SpellsSemver}
use Rattle.semver_texts.proofs.SpelledVersions.{semver_printed}
use Rattle.semver_texts.proofs.laws.semver_texts_are_printed.Goals as goal

pub returns-clause-semver : goal.returns-clause-semver
returns-clause-semver c = semver_printed

pub returns-clause-npm : goal.returns-clause-npm
returns-clause-npm c = λ v text w. subst (SpellsSemver v) (semver_printed v w.0.core w.0.spells) w.0.spells

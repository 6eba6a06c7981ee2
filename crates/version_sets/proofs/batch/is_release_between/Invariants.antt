-- The results for the versions so far are written, and the numbers of these versions fit 64 bits.
use Rattle.version_sets.specs.Steps.Between.{is_release_between as between}
use Rattle.version_sets.specs.Steps.Places.{version_place}
use Rattle.version_sets.specs.VersionSets.{Fits}
use Rattle.version_sets.proofs.EachAnswer.{AreTold}
use Rattle.version_sets.proofs.batch.is_release_between.Given as goal

abbrev pub invariant-loop-at : goal.invariant-loop-at
invariant-loop-at l =
    AreTold (λ v. between l.from l.to (version_place v)) (λ v. Fits (version_place v)) l.versions l.answers l.at

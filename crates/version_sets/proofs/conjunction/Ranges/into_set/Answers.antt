use Rattle.std.proofs.Common.{map}
use Rattle.semver_versions.specs.ReadVersions.{read_plain}
use Rattle.version_sets.specs.Printable.{prints_by}
use Rattle.version_sets.proofs.EndLaws.{either_prints}
use Rattle.version_sets.proofs.conjunction.Ranges.into_set.Goals as goal

pub returns-clause-printable : goal.returns-clause-printable
returns-clause-printable c = λ prints.
    let d = c.args.digits in
    rw c.of_boundaries.ensures (either_prints d (map read_plain c.in_ok-pre_releases.pre_releases.items)
    (c.in_ok-pre_releases.ensures.holds (prints_by d) prints))

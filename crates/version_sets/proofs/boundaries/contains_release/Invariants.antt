-- The release is inside the boundaries if and only if `is_in` differs from whether it is inside
-- those that are left.
use Rattle.std.proofs.Common.{drop, map}
use Rattle.semver_texts.specs.Precedence.{precedence}
use Rattle.version_sets.specs.Releases.{release_value}
use Rattle.version_sets.proofs.SearchLaws.{IsTurned}
use Rattle.version_sets.proofs.boundaries.contains_release.Given as goal

abbrev pub invariant-loop-boundary : goal.invariant-loop-boundary
invariant-loop-boundary l =
    IsTurned precedence (release_value l.release) (map release_value l.boundaries)
    (map release_value (drop l.boundary-index l.boundaries)) l.is_in

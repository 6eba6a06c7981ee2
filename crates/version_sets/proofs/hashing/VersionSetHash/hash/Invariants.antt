use Rattle.std.proofs.Common.{◌≡◌, take}
use Rattle.std.specs.Prelude.{flat_map, fold}
use Rattle.semver_versions.specs.ReadVersions.{read_plain}
use Rattle.version_sets.specs.HashedSets.{hashed_numbers}
use Rattle.version_sets.proofs.hashing.VersionSetHash.hash.Given as goal

abbrev pub invariant-loop-boundary : goal.invariant-loop-boundary
invariant-loop-boundary g l = l.state
    ≡ fold g.H.Hasher.write l.initial.state (flat_map (λ b. hashed_numbers (read_plain b)) (take l.boundary-index l.boundary-items))

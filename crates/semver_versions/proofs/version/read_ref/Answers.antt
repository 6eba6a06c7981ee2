use Rattle.semver_versions.proofs.version.read_ref.Goals as goal

pub returns-clause-borrowed : goal.returns-clause-borrowed
returns-clause-borrowed c = rw c.as_bytes.ensures.value at c.read_ref_bytes.ensures.borrowed

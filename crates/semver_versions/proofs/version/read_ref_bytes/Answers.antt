use Rattle.semver_versions.proofs.DialectVersionRefs.{same_version_ref}
use Rattle.semver_versions.proofs.BorrowedVersions.{no_pre_release, no_build}
use Rattle.semver_versions.proofs.version.read_ref_bytes.Goals as goal

pub returns-clause-borrowed : goal.returns-clause-borrowed
returns-clause-borrowed c = λ o.
    let of = c.read_ref_in.ensures.borrowed o in
    let same = same_version_ref o c.args.input.now in
    (λ e. same.0 (of.0 e), λ is. of.1 (same.1 is))

pub returns-clause-pre_release : goal.returns-clause-pre_release
returns-clause-pre_release c = λ v spells. no_pre_release c.args.input.now v spells c.read_ref_in.result c.read_ref_in.ensures.version

pub returns-clause-build : goal.returns-clause-build
returns-clause-build c = λ v spells. no_build c.args.input.now v spells c.read_ref_in.result c.read_ref_in.ensures.version

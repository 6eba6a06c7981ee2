use Rattle.std.proofs.Common.{refl}
use Rattle.semver_texts.specs.VersionViews.{version_value}
use Rattle.semver_versions.proofs.BorrowedVersions.{has_some, exactly, if_err}
use Rattle.semver_versions.proofs.version.read_bytes.Goals as goal

pub returns-in_err-version-clause-out_of_memory : goal.returns-in_err-version-clause-out_of_memory
returns-in_err-version-clause-out_of_memory c =
    if_err c.from_residual.result (has_some _ c.args.input.now c.in-Some.borrowed ((c.in-Some.ensures.borrowed c.in-Some.borrowed).0 refl)
    c.in_err-version.ensures.out_of_memory)

pub returns-clause-exact : goal.returns-clause-exact
returns-clause-exact c = exactly c.args.input.now (version_value c.in_ok-version.field-0)
    (c.in_ok-version.ensures.version c.args.input.now ((c.in-Some.ensures.borrowed c.in-Some.borrowed).0 refl))

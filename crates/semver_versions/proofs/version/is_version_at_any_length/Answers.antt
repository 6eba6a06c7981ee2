use Rattle.semver_versions.proofs.ReadTexts.{is_version_from}
use Rattle.semver_versions.proofs.version.is_version_at_any_length.Goals as goal

pub returns : goal.returns
returns c =
    rw c.is_some.ensures
    (is_version_from c.args.grammar c.args.input.now c.read_ref_at_any_length.result c.read_ref_at_any_length.ensures)

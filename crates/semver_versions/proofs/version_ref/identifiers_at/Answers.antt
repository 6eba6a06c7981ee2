use Rattle.std.proofs.Common.{rules}
use Rattle.semver_versions.proofs.TextSlices.{ends_between}
use Rattle.semver_versions.proofs.version_ref.identifiers_at.Goals as goal

pub range-requires-clause-end_boundary : goal.range-requires-clause-end_boundary
range-requires-clause-end_boundary c =
    ends_between c.args.offset c.args.parts.now c.args.text.now c.requires.place (search rules) c.requires.parts c.utf8.text

use Rattle.semver_texts.proofs.PartRuns.{parts_pass}
use Rattle.semver_versions.proofs.identifiers.identifiers.Goals as goal

pub text_of_parts-requires : goal.text_of_parts-requires
text_of_parts-requires c = parts_pass c.args.bytes.now c.requires

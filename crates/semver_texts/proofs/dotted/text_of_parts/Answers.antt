use Rattle.semver_texts.proofs.DottedParts.{dotted_utf8}
use Rattle.semver_texts.proofs.dotted.text_of_parts.Goals as goal

pub returns-in-Err : goal.returns-in-Err
returns-in-Err c = absurd (c.in-Err.ensures.cases.0 (dotted_utf8 c.args.bytes.now c.requires))

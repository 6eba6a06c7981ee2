use Rattle.std.proofs.Common.{refl}
use Rattle.semver_texts.proofs.PartRuns.{pieces}
use Rattle.semver_texts.proofs.identifiers.JoinedIdentifiers.is_empty.Goals as goal

pub returns-in_default : goal.returns-in_default
returns-in_default g c = rw (c.in_default.is, pieces c.in_default.field-0.now) refl

use Rattle.semver_texts.proofs.DottedParts.{IsRead}
use Rattle.semver_texts.proofs.dotted.parts_len.Given as goal

abbrev pub invariant-loop-at : goal.invariant-loop-at
invariant-loop-at l = IsRead l.hyphens l.bytes l.at l.in_run

use Rattle.std.proofs.Common.{take}
use Rattle.std.specs.List.{All}
use Rattle.semver_texts.proofs.DottedParts.{IsOther}
use Rattle.semver_texts.proofs.dotted.split_at_dot.Given as goal

abbrev pub invariant-loop-at : goal.invariant-loop-at
invariant-loop-at l = All IsOther (take l.at l.bytes)

-- No part after a dot before `at` is empty or begins with a zero, so only the rest decides.
use Rattle.std.proofs.Common.{◌≡◌, drop}
use Rattle.semver_texts.specs.Steps.DottedParts.{odd_after}
use Rattle.semver_texts.proofs.dotted.begins_oddly.Given as goal

abbrev pub invariant-loop-at : goal.invariant-loop-at
invariant-loop-at l = odd_after l.parts ≡ odd_after (drop l.at l.parts)

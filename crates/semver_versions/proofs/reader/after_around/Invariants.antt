use Rattle.std.proofs.Common.{◌≡◌, ◌++◌, length}
use Rattle.semver_texts.specs.Texts.{Text}
use Rattle.semver_versions.specs.Steps.Reading.{AreAround}
use Rattle.semver_versions.proofs.reader.after_around.Given as goal

abbrev pub invariant-loop-grammar : goal.invariant-loop-grammar
invariant-loop-grammar l = (spaces : Text) × AreAround l.grammar spaces × (l.fn.bytes ≡ spaces ++ l.rest)

abbrev pub decreases-loop-grammar : goal.decreases-loop-grammar
decreases-loop-grammar l = length l.rest

-- The lines before the rest were taken.
use Rattle.std.proofs.Common.{◌≡◌, ◌++◌, List, length}
use Rattle.semver_texts.specs.Texts.{Text}
use Rattle.release_filter.specs.LineTexts.{end_byte, lines_of}
use Rattle.release_filter.specs.Pieces.{TakesLines}
use Rattle.release_filter.specs.Steps.Taking.{fold_value}
use Rattle.release_filter.proofs.lines.Fold.take_all.Given as goal

abbrev pub invariant-loop-rest : goal.invariant-loop-rest
invariant-loop-rest l = (done : List Text)
    × (lines_of (end_byte l.initial.self.judge.ending) l.bytes ≡ done ++ lines_of (end_byte l.initial.self.judge.ending) l.rest)
    × TakesLines (fold_value l.initial.self) done (fold_value l.self) l.initial.kept.items l.kept.items

abbrev pub decreases-loop-rest : goal.decreases-loop-rest
decreases-loop-rest l = length l.rest

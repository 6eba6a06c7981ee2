-- The first `indexed-index` lines were appended.
use Rattle.release_filter.proofs.HeldLines.{AppendsSome}
use Rattle.release_filter.proofs.selection.append.Given as goal

abbrev pub invariant-loop-indexed : goal.invariant-loop-indexed
invariant-loop-indexed l = AppendsSome l.lines l.indexed-index l.initial.kept.items l.kept.items

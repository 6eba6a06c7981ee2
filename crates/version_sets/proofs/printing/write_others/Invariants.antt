-- The text that was written, followed by that of the intervals that are left, is the text of all
-- intervals.
use Rattle.std.proofs.Common.{◌≡◌, ◌++◌, length, map}
use Rattle.std.specs.Fmt.{HasWritten, IsPlainFormatter}
use Rattle.semver_texts.specs.Texts.{Text}
use Rattle.version_sets.specs.SetRanges.{intervals}
use Rattle.version_sets.specs.Steps.ComparatorRefs.{others_text}
use Rattle.version_sets.proofs.printing.write_others.Given as goal

abbrev pub invariant-loop-next : goal.invariant-loop-next
invariant-loop-next g l =
    let place = g.T.Boundary.place in
    let kind = g.T.Boundary.kind in
    IsPlainFormatter l.initial.f → (text : Text) × HasWritten g.W.Write.write_str_gives l.initial.f text l.f
    × (text ++ others_text l.joint (intervals kind (map place l.left)) ≡ others_text l.joint (intervals kind (map place l.boundaries)))

abbrev pub decreases-loop-next : goal.decreases-loop-next
decreases-loop-next g l = length l.left

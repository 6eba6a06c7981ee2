use Rattle.std.proofs.Common.{◌≡◌, false, map}
use Rattle.std.specs.Prelude.{slice_get}
use Rattle.version_sets.specs.Steps.Sweeps.{changes}
use Rattle.version_sets.specs.Steps.SweepViews.{pieces_left}
use Rattle.version_sets.specs.Combinations.{keeps}
use Rattle.version_sets.specs.Steps.Combined.{pieces, combined}
use Rattle.version_sets.proofs.set_operations.Combination.first.Given as goal

-- no boundary was found yet: the first one of the pieces that are left is the first of the
-- combination
abbrev pub invariant-loop-piece : goal.invariant-loop-piece
invariant-loop-piece g l =
    let place = g.T.Boundary.place in
    slice_get (changes (keeps l.self) false (pieces_left place l.piece-iterator)) 0
    ≡ slice_get (combined l.self (pieces (map place l.first) (map place l.second))) 0

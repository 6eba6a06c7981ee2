use Rattle.std.proofs.Common.{◌≡◌, true, map, ◌++◌, ◌||◌}
use Rattle.version_sets.specs.Steps.Sweeps.{changes}
use Rattle.version_sets.specs.Steps.SweepViews.{pieces_left}
use Rattle.version_sets.specs.Combinations.{keeps}
use Rattle.version_sets.specs.Steps.Combined.{pieces, keeps_some, combined}
use Rattle.version_sets.proofs.set_operations.Combination.of.Given as goal

-- the boundaries so far, followed by those of the pieces that are left, are those of the
-- combination; and if the last piece or one that is left is kept, some piece of the whole is
abbrev pub invariant-loop-piece : goal.invariant-loop-piece
invariant-loop-piece g l =
    let place = g.T.Boundary.place in
    let whole = pieces (map place l.first) (map place l.second) in
    let left = pieces_left place l.piece-iterator in
    record {
      told : map place l.boundaries.items ++ changes (keeps l.self) l.is_kept left ≡ combined l.self whole;
      kept : (l.is_kept || keeps_some l.self left) ≡ true → keeps_some l.self whole ≡ true;
    }

-- The ranges so far, followed by those of the boundaries that are left, are the ranges of all
-- boundaries.
use Rattle.std.proofs.Common.{◌≡◌, ◌≤◌, map, ◌++◌, length}
use Rattle.semver_ranges.specs.RangeViews.{range_of}
use Rattle.version_sets.specs.DigitViews.{range_kept}
use Rattle.version_sets.specs.SetRanges.{intervals}
use Rattle.version_sets.proofs.comparators.ranges_of.Given as goal

abbrev pub invariant-loop-first : goal.invariant-loop-first
invariant-loop-first g l =
    let place = g.T.Boundary.place in
    let kind = g.T.Boundary.kind in record {
      told : map range_of l.ranges.items ++ map range_kept (intervals kind (map place l.left))
          ≡ map range_kept (intervals kind (map place l.boundaries));
      within : length l.left ≤ length l.boundaries;
    }

abbrev pub decreases-loop-first : goal.decreases-loop-first
decreases-loop-first g l = length l.left

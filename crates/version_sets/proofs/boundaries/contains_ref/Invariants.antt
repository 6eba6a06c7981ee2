-- The boundaries before the index `low` are at or below the version, and those from the index
-- `high` on are above it.
use Rattle.std.proofs.Common.{◌≤◌, ◌-◌, length}
use Rattle.semver_texts.specs.Digits.{plain_by}
use Rattle.semver_versions.specs.VersionRefs.{kept_version_of}
use Rattle.version_sets.proofs.BorrowedPlaces.{IsNarrowed}
use Rattle.version_sets.proofs.boundaries.contains_ref.Given as goal

abbrev pub invariant-loop-low : goal.invariant-loop-low
invariant-loop-low l =
    (l.low ≤ l.high) × (l.high ≤ length l.boundaries)
    × IsNarrowed (plain_by l.digits (kept_version_of l.borrowed).plain) l.boundaries l.low l.high

abbrev pub decreases-loop-low : goal.decreases-loop-low
decreases-loop-low l = l.high - l.low

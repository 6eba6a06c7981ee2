-- In the first loop, `places` begins with the indices of those of the versions so far that are in the
-- set. In the second loop, the versions at these indices are kept one after another.
use Rattle.std.proofs.Common.{◌≡◌, ◌++◌, map, take}
use Rattle.std.specs.Prelude.{filter}
use Rattle.release_filter.specs.Steps.Members.{is_member}
use Rattle.release_filter.proofs.KeptVersions.{AreInFront}
use Rattle.release_filter.proofs.contained.keep.Given as goal

abbrev pub invariant-loop-at : goal.invariant-loop-at
invariant-loop-at l = AreInFront (is_member l.set) l.versions l.places l.count l.at

abbrev pub invariant-loop-place : goal.invariant-loop-place
invariant-loop-place l =
    map (λ b. b.now) l.kept.items
    ≡ map (λ b. b.now) l.initial.kept.items ++ take l.place-index (filter (is_member l.set) l.versions)

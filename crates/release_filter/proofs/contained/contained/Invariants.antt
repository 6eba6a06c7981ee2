-- The versions before the rest have been checked, and those that are in the set are kept.
use Rattle.std.proofs.Common.{length}
use Rattle.release_filter.specs.Steps.Members.{is_member}
use Rattle.release_filter.proofs.KeptVersions.{IsCheckedUpTo}
use Rattle.release_filter.proofs.contained.contained.Given as goal

abbrev pub invariant-loop-rest : goal.invariant-loop-rest
invariant-loop-rest l = IsCheckedUpTo (is_member l.set) (λ b. b.now) l.versions l.rest l.kept.items

abbrev pub decreases-loop-rest : goal.decreases-loop-rest
decreases-loop-rest l = length l.rest

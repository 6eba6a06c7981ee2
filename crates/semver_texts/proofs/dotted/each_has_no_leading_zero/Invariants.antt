use Rattle.std.proofs.Common.{◌≡◌}
use Rattle.std.specs.List.{list_all, slice_split}
use Rattle.semver_texts.specs.Texts.{has_no_leading_zero, is_dot}
use Rattle.semver_texts.proofs.DottedParts.{parts_after, size_after}
use Rattle.semver_texts.proofs.dotted.each_has_no_leading_zero.Given as goal

abbrev pub invariant-loop-rest : goal.invariant-loop-rest
invariant-loop-rest l =
    list_all has_no_leading_zero (slice_split is_dot l.fn.parts) ≡ list_all has_no_leading_zero (parts_after l.rest)

abbrev pub decreases-loop-rest : goal.decreases-loop-rest
decreases-loop-rest l = size_after l.rest

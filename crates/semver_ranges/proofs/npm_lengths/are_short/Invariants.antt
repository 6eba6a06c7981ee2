use Rattle.std.proofs.Common.{◌≡◌}
use Rattle.std.specs.List.{list_all}
use Rattle.semver_texts.specs.Texts.{cut_at_dots}
use Rattle.semver_texts.proofs.DottedParts.{parts_after, size_after}
use Rattle.semver_ranges.specs.Steps.NpmLimits.{is_short_as}
use Rattle.semver_ranges.proofs.npm_lengths.are_short.Given as goal

abbrev pub invariant-loop-rest : goal.invariant-loop-rest
invariant-loop-rest l =
    list_all (is_short_as l.kind) (cut_at_dots l.fn.parts) ≡ list_all (is_short_as l.kind) (parts_after l.rest)

abbrev pub decreases-loop-rest : goal.decreases-loop-rest
decreases-loop-rest l = size_after l.rest

use Rattle.std.proofs.Common.{◌≡◌, ◌++◌, List, Ok}
use Rattle.std.specs.Fn.{FnReturnsAt}
use Rattle.std.specs.List.{AllZip, slice_split}
use Rattle.semver_texts.specs.Texts.{Text, is_dot}
use Rattle.semver_texts.proofs.DottedParts.{parts_after, size_after}
use Rattle.semver_texts.proofs.dotted.cut_parts.Given as goal

abbrev pub invariant-loop-rest : goal.invariant-loop-rest
invariant-loop-rest g l =
    (cut : List Text) × (slice_split is_dot l.fn.text ≡ cut ++ parts_after l.rest)
    × AllZip (λ item part. FnReturnsAt g.F.Fn l.make part (Ok item)) l.made.items cut

abbrev pub decreases-loop-rest : goal.decreases-loop-rest
decreases-loop-rest g l = size_after l.rest

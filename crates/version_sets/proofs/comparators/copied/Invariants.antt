use Rattle.std.proofs.Common.{◌≡◌, map, take}
use Rattle.semver_texts.specs.Digits.{as_kept, identifier_by}
use Rattle.semver_ranges.specs.RangeViews.{identifier_of}
use Rattle.semver_texts.specs.VersionViews.{identifier_value}
use Rattle.version_sets.proofs.comparators.copied.Given as goal

abbrev pub invariant-loop-identifier : goal.invariant-loop-identifier
invariant-loop-identifier l = map identifier_of l.copies.items
    ≡ map (λ x. as_kept (identifier_by l.digits (identifier_value x))) (take l.identifier-index l.identifiers)

use Rattle.std.proofs.Common.{◌≡◌, Bool, true, length, map}
use Rattle.std.specs.List.{list_all}
use Rattle.semver_texts.specs.Precedence.{precedence}
use Rattle.semver_texts.specs.Versions.{PlainVersion}
use Rattle.version_sets.specs.Boundaries.{is_inside}
use Rattle.version_sets.specs.VersionSets.{AreBoundaries}
use Rattle.version_sets.specs.Steps.Places.{IsOfKind}
use Rattle.version_sets.specs.Steps.Within.{IsOfKindWithin}
use Rattle.version_sets.proofs.within.first_inside.Given as goal

abbrev pub invariant-loop-begin : goal.invariant-loop-begin
invariant-loop-begin g l =
    let place = g.T.Boundary.place in
    let kind = g.T.Boundary.are_releases in ((v : PlainVersion) → IsOfKindWithin kind l.most v
    → is_inside precedence (map place l.boundaries) v ≡ is_inside precedence (map place l.rest) v)
    × AreBoundaries (IsOfKind kind) (map place l.rest)
    × ((p : PlainVersion → Bool) → list_all p (map place l.boundaries) ≡ true → list_all p (map place l.rest) ≡ true)

abbrev pub decreases-loop-begin : goal.decreases-loop-begin
decreases-loop-begin g l = length l.rest

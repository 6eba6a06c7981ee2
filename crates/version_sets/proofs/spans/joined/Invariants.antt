-- The boundaries so far are of their kind and, followed by those of the spans that are left, are
-- the boundaries of all spans.
use Rattle.std.proofs.Common.{◌≡◌, ◌++◌, drop, map}
use Rattle.std.specs.List.{AllByRecursion}
use Rattle.semver_texts.specs.Precedence.{precedence}
use Rattle.version_sets.specs.Steps.Spans.{joined}
use Rattle.version_sets.specs.Steps.SpanViews.{span_value}
use Rattle.version_sets.specs.Steps.Places.{IsOfKind}
use Rattle.version_sets.proofs.spans.joined.Given as goal

abbrev pub invariant-loop-next : goal.invariant-loop-next
invariant-loop-next g l =
    let seen = span_value g.L.SpanEnd.place in
    AllByRecursion (IsOfKind g.L.Boundary.Boundary.are_releases) (map g.L.Boundary.Boundary.place l.boundaries.items)
    × (map g.L.Boundary.Boundary.place l.boundaries.items ++ joined precedence (seen l.span) (map seen (drop l.next-index l.others))
    ≡ joined precedence (seen l.initial.span) (map seen l.others))

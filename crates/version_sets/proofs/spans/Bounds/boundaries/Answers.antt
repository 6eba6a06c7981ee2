use Rattle.std.proofs.Common.{◌∙◌, ◌++◌, arith, ap, map, subst, sym}
use Rattle.std.specs.List.{AllByRecursion}
use Rattle.version_sets.specs.Steps.SpanViews.{span_value}
use Rattle.version_sets.specs.Steps.Spans.{span_boundaries}
use Rattle.semver_texts.specs.Precedence.{precedence}
use Rattle.version_sets.proofs.SpanLaws.{are_of_one}
use Rattle.version_sets.specs.Steps.Places.{IsOfKind}
use Rattle.version_sets.proofs.spans.Bounds.boundaries.Goals as goal

pub returns : goal.returns
returns g c =
    let place = g.L.Boundary.Boundary.place in
    let none = ap (map place) c.in_ok-boundaries.ensures.items in
    let of = are_of_one (IsOfKind g.L.Boundary.Boundary.are_releases) (span_value g.L.SpanEnd.place c.in-Some.span) _ c.in-Some.ensures.meaning.0
    (c.in_ok-push_boundaries.ensures.boundaries ∙ ap (λ ys. ys ++ span_boundaries precedence (span_value g.L.SpanEnd.place c.in-Some.span)) none)
    (c.in_ok-push_boundaries.ensures.kind (subst (AllByRecursion (IsOfKind g.L.Boundary.Boundary.are_releases)) (sym none) tt)) in
    record { boundaries = of.are_boundaries; meaning = λ v. of.turn v ∙ grind (arith, c.in-Some.ensures.meaning.1 v) }

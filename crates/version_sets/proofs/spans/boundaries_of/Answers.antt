use Rattle.std.proofs.Common.{rules, map}
use Rattle.std.proofs.lemmas.Cmp.{on_total}
use Rattle.std.proofs.lemmas.List.Sorted.{ranks_by}
use Rattle.semver_texts.specs.Steps.PrecedenceLaws.{precedence_total}
use Rattle.version_sets.specs.declared.spans.Span.{Span}
use Rattle.version_sets.proofs.Lists.{answered_so}
use Rattle.version_sets.proofs.SpanLaws.{begins_below, compares, are_of_sorted}
use Rattle.version_sets.proofs.HeldBoundaries.{boundaries_hold}
use Rattle.version_sets.specs.Steps.Places.{IsOfKind}
use Rattle.version_sets.proofs.spans.boundaries_of.Goals as goal

pub returns : goal.returns
returns g c =
    let place = g.L.SpanEnd.place in
    let sorted = c.sort_unstable_by.ensures.sorted (begins_below place)
    (ranks_by precedence_total (λ (s : Span g.row.L.Denot). place s.from)) (compares place (λ a r q k. search rules)) in
    let of = are_of_sorted place (IsOfKind g.L.Boundary.Boundary.are_releases) c.args.spans.now _ c.sort_unstable_by.ensures.permutation sorted c.requires in
    record {
      boundaries = answered_so _ c.joined.result c.joined.ensures
          (λ boundaries is. (of (map g.L.Boundary.Boundary.place boundaries.items) is).are_boundaries);
      meaning = answered_so _ c.joined.result c.joined.ensures
          (λ boundaries is. (of (map g.L.Boundary.Boundary.place boundaries.items) is).turn);
      holds = answered_so _ c.joined.result c.joined.ensures (λ boundaries is p.
          boundaries_hold place p c.args.spans.now _ c.sort_unstable_by.ensures.permutation (map g.L.Boundary.Boundary.place boundaries.items)
          is.1);
      total_order = on_total (λ (s : Span g.row.L.Denot). place s.from) precedence_total;
    }

use Rattle.std.proofs.Common.{rules, ◌∙◌}
use Rattle.std.proofs.lemmas.List.Sorted.{IsPartitionPoint-from_clause}
use Rattle.semver_texts.specs.Precedence.{precedence}
use Rattle.version_sets.proofs.SearchLaws.{is_passed, passed_before, odd_passed}
use Rattle.semver_texts.specs.Steps.PrecedenceLaws.{precedence_total}
use Rattle.version_sets.proofs.boundaries.contains.Goals as goal

pub returns : goal.returns
returns g c =
    let place = g.T.Boundary.place in
    let v = place c.args.place.now in
    let xs = c.args.boundaries.now in
    let point =
    IsPartitionPoint-from_clause (is_passed precedence precedence_total place v) xs _ c.partition_point.ensures.partitioned
    (passed_before precedence precedence_total place v xs c.requires) (λ a r q k. search rules) in
    c.is_odd.ensures ∙ odd_passed precedence precedence_total place v xs _ c.partition_point.ensures.bound point

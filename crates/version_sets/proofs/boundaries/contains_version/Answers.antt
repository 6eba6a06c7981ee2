use Rattle.std.proofs.Common.{rules, ◌∙◌}
use Rattle.std.proofs.lemmas.List.Sorted.{IsPartitionPoint-from_clause}
use Rattle.semver_texts.specs.Digits.{plain_by}
use Rattle.semver_texts.specs.Precedence.{precedence}
use Rattle.semver_texts.specs.Steps.PrecedenceLaws.{precedence_total}
use Rattle.semver_versions.specs.ReadVersions.{read_plain}
use Rattle.version_sets.specs.Steps.Places.{version_place}
use Rattle.version_sets.proofs.SearchLaws.{is_passed, passed_before, odd_passed}
use Rattle.version_sets.proofs.boundaries.contains_version.Goals as goal

pub returns : goal.returns
returns c =
    let v = plain_by c.args.digits (version_place c.args.version.now) in
    let xs = c.args.boundaries.now in
    let point =
    IsPartitionPoint-from_clause (is_passed precedence precedence_total read_plain v) xs _ c.partition_point.ensures.partitioned
    (passed_before precedence precedence_total read_plain v xs c.requires) (λ a r q k. search rules) in
    c.is_odd.ensures ∙ odd_passed precedence precedence_total read_plain v xs _ c.partition_point.ensures.bound point

use Rattle.std.proofs.Common.{◌≡◌, ◌∷◌, ◌∙◌, List, false, ap, map, rules, subst, sym}
use Rattle.std.proofs.Output.{has_written_append, has_written_of_eq}
use Rattle.semver_ranges.specs.RewritingTable.{PlainRange}
use Rattle.version_sets.specs.SetRanges.{intervals, is_whole, npm_range, npm_set, ranges_text_by}
use Rattle.version_sets.specs.Steps.ComparatorRefs.{interval_value}
use Rattle.version_sets.proofs.WrittenSets.{first_and_others, not_whole}
use Rattle.version_sets.proofs.printing.write_ranges.Goals as goal

pub returns : goal.returns
returns g c = λ plain ok.
    let kind = g.T.Boundary.kind in
    let place = g.T.Boundary.place in
    let first = npm_range (interval_value c.in-Some.first) in
    let others = intervals kind (map place c.in-Some.others.now) in
    let is : intervals kind (map place c.args.boundaries.now) ≡ first ∷ others = c.in-Some.ensures.first in
    let part : is_whole (first ∷ others) ≡ false =
    subst (λ (rs : List PlainRange). is_whole rs ≡ false) is (sym c.is_whole.ensures ∙ c.if-is_whole.false) in
    let joint = c.args.joint.now in
    let begun = c.in_ok-write_interval.ensures plain (search rules) in
    let more = c.write_others.ensures begun.plain ok in
    has_written_of_eq _ _ _ _ _
    (first_and_others joint first others ∙ not_whole joint first others part
    ∙ ap (λ (rs : List PlainRange). ranges_text_by joint (npm_set rs)) (sym is))
    (has_written_append _ _ _ _ _ _ begun more)

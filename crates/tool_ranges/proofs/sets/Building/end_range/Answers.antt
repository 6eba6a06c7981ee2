use Rattle.std.proofs.Common.{true, not, ◌&&◌, ◌||◌, ap, ◌∙◌}
use Rattle.std.proofs.Math.Bool.{or-false}
use Rattle.std.specs.List.{list_any}
use Rattle.semver_texts.specs.Texts.{is_empty}
use Rattle.version_sets.specs.Steps.Ends.{has_numbers, in_each, in_ranges}
use Rattle.tool_ranges.specs.Steps.Matching.{counts}
use Rattle.tool_ranges.proofs.BuiltSets.{both_kinds}
use Rattle.tool_ranges.proofs.sets.Building.end_range.Goals as goal

pub returns-clause-known : goal.returns-clause-known
returns-clause-known c = λ v small.
    let old = c.args.self.now in
    let all = c.args.all in
    let counted = ap (λ ns. counts all v || list_any (has_numbers v) ns) c.clear.ensures.items ∙ or-false (counts all v) in
    let met = c.in_ok-push_pre_releases.ensures.known v small
    ∙ ap (λ b. b || (not (is_empty v.pre) && (in_each old.here v && (counts all v || list_any (has_numbers v) c.deref.result.now))))
    (c.in_ok-push_releases.ensures.meaning v)
    ∙ ap (λ ns. (in_ranges old.ranges v || (is_empty v.pre && in_each old.here v))
    || (not (is_empty v.pre) && (in_each old.here v && (counts all v || list_any (has_numbers v) ns)))) c.deref.ensures.value
    ∙ both_kinds all v (in_ranges old.ranges v) (in_each old.here v) (list_any (has_numbers v) old.stated.items) in
    λ i. record {
      here = c.new-self.ensures.all v small i;
      counts = counted i;
      matches_all = true;
      met = met i;
      matched_all = old.matched_all || old.matches_all;
    }

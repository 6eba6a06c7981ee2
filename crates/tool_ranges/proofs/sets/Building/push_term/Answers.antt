use Rattle.std.proofs.Common.{◌≡◌, Bool, true, false, ◌&&◌, ◌||◌, refl, sym, ap, ◌∙◌}
use Rattle.std.proofs.Math.Bool.{or-false}
use Rattle.std.proofs.lemmas.List.Folds.{list_any-append}
use Rattle.std.specs.List.{list_any}
use Rattle.semver_ranges.specs.StatedPreReleases.{states_pre_release_at}
use Rattle.semver_ranges.specs.Terms.{of_simple}
use Rattle.version_sets.specs.Steps.Ends.{has_numbers, in_ranges}
use Rattle.tool_ranges.specs.Steps.Matching.{counts}
use Rattle.tool_ranges.proofs.MatchedTerms.{everything, stated_at}
use Rattle.tool_ranges.proofs.sets.Building.push_term.Goals as goal
use Rattle.tool_ranges.proofs.sets.Building.push_term.Goals.{After-stated_numbers}

or_assoc : (a b c : Bool) → (a || (b || c)) ≡ ((a || b) || c)
or_assoc true b c = refl
or_assoc false b c = refl

pub returns-in_ok-push-clause-known : goal.returns-in_ok-push-clause-known
returns-in_ok-push-clause-known c = λ s v is fit small.
    let known = c.with_term-self.ensures.meaning s v is fit small in
    let d = c.args.dialect in
    let simple = c.args.simple.now in
    let all = c.args.all in
    let old = c.args.self.now in
    let stated = ap (list_any (has_numbers v)) c.in_ok-push.ensures.items ∙ list_any-append (has_numbers v) old.stated.items _
    ∙ ap (λ b. list_any (has_numbers v) old.stated.items || b) (or-false _ ∙ sym (c.in-Some.ensures v) ∙ stated_at d s simple is fit v) in
    let counted = ap (λ b. counts all v || b) stated
    ∙ or_assoc (counts all v) (list_any (has_numbers v) old.stated.items) (states_pre_release_at (of_simple s) v) in
    let matches_all = c.matches_everything.ensures ∙ everything d s simple is fit in
    λ i. record {
      here = known i;
      counts = counted i;
      matches_all = old.matches_all && matches_all i;
      met = in_ranges old.ranges v;
      matched_all = old.matched_all;
    }

pub returns-in_default-clause-known : goal.returns-in_default-clause-known
returns-in_default-clause-known c = λ s v is fit small.
    let known = c.with_term-self.ensures.meaning s v is fit small in
    let d = c.args.dialect in
    let simple = c.args.simple.now in
    let all = c.args.all in
    let old = c.args.self.now in
    let stated = sym (or-false (counts all v || list_any (has_numbers v) old.stated.items))
    ∙ ap (λ b. (counts all v || list_any (has_numbers v) old.stated.items) || b) (sym (c.in_default.ensures v) ∙ stated_at d s simple is fit v) in
    let matches_all = c.matches_everything.ensures ∙ everything d s simple is fit in
    λ i. record {
      here = known i;
      counts = stated i;
      matches_all = old.matches_all && matches_all i;
      met = in_ranges old.ranges v;
      matched_all = old.matched_all;
    }

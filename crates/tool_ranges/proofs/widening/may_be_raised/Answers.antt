use Rattle.std.proofs.Common.{◌≡◌, ◌∙◌, ◌↔◌, subst, sym, true}
use Rattle.semver_ranges.specs.Steps.PartialViews.{version_of}
use Rattle.semver_texts.specs.Texts.{is_empty}
use Rattle.tool_ranges.specs.Widening.{MayBeRaised}
use Rattle.tool_ranges.proofs.WidenedTerms.{has_some, lowest_only}
use Rattle.tool_ranges.proofs.widening.may_be_raised.Goals as goal

pub returns-else-not-has_pre_release : goal.returns-else-not-has_pre_release
returns-else-not-has_pre_release c =
    let pre = (version_of c.args.term.now.partial).pre in
    subst (λ f. (c.has_lowest_pre_release.result ≡ true) ↔ MayBeRaised f pre) (sym c.in-Less.is)
    (lowest_only pre c.has_lowest_pre_release.result c.has_lowest_pre_release.ensures
    (has_some (is_empty pre) (sym c.has_pre_release.ensures ∙ c.if-not-has_pre_release.false)))

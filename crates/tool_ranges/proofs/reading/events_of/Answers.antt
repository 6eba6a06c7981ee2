use Rattle.std.proofs.Common.{refl, sym, ap, ◌∙◌, subst}
use Rattle.semver_ranges.specs.Steps.CursorViews.{HasLeft, IsBegunIn}
use Rattle.semver_ranges.specs.Steps.RangeEvents.{events}
use Rattle.tool_ranges.proofs.Comparators.{events_as, not_read}
use Rattle.tool_ranges.proofs.reading.events_of.Goals as goal

pub returns-then-may_be_a_range-clause-left : goal.returns-then-may_be_a_range-clause-left
returns-then-may_be_a_range-clause-left c =
    let t = c.args.text.now in
    rw (← c.grammar.ensures.grammar) (subst (HasLeft c.grammar.result c.new.result)
    (ap (λ t. events c.grammar.result t) c.as_bytes.ensures.value ∙ ap (λ g. events g t) c.grammar.ensures.grammar
    ∙ events_as t c.args.dialect (sym c.may_be_a_range.ensures ∙ c.if-may_be_a_range.true))
    c.new.ensures.0)

pub returns-then-may_be_a_range-clause-begun : goal.returns-then-may_be_a_range-clause-begun
returns-then-may_be_a_range-clause-begun c = (
  subst (λ g. IsBegunIn g c.args.text.now c.new.result) c.grammar.ensures.grammar
      (subst (λ t. IsBegunIn c.grammar.result t c.new.result) c.as_bytes.ensures.value c.new.ensures),
  events_as c.args.text.now c.args.dialect (sym c.may_be_a_range.ensures ∙ c.if-may_be_a_range.true),
)

pub returns-else-may_be_a_range-clause-left : goal.returns-else-may_be_a_range-clause-left
returns-else-may_be_a_range-clause-left c =
    (refl, not_read c.args.text.now c.args.dialect (sym c.may_be_a_range.ensures ∙ c.if-may_be_a_range.false))

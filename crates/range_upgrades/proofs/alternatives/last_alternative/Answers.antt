use Rattle.std.proofs.Common.{ap, sym, ◌∙◌}
use Rattle.std.specs.Prelude.{None}
use Rattle.range_upgrades.specs.Alternatives.{last_with}
use Rattle.range_upgrades.proofs.alternatives.last_alternative.Goals as goal

pub loop-term-init : goal.loop-term-init
loop-term-init c = λ tree spelled.
    ap (last_with None) (c.into_iter-term-iterator.ensures.into_iter_gives ∙ c.of_range-term-items.ensures tree spelled)

pub loop-term-preserved : goal.loop-term-preserved
loop-term-preserved c = λ tree spelled.
    ap (λ o. last_with o c.next.new.self) c.with_term.ensures ∙ ap (last_with c.loop-term.last) (sym c.in-Some.ensures.steps)
    ∙ c.loop-term.invariant tree spelled

pub returns : goal.returns
returns c = λ tree spelled. ap (last_with c.loop-term.last) (sym c.in-None.ensures.steps.0) ∙ c.loop-term.invariant tree spelled

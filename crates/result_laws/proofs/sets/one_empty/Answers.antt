use Rattle.std.proofs.Common.{sym, ◌∙◌}
use Rattle.result_laws.proofs.sets.one_empty.Goals as goal

pub returns : goal.returns
returns c =
    record { one = c.are_alike.ensures.alike (c.empty-first.ensures.digits ∙ sym c.empty-second.ensures.digits) (λ v fits. c.empty-first.ensures.empty v ∙ sym (c.empty-second.ensures.empty v)) }

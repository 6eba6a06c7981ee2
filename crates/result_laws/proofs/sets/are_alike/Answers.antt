use Rattle.std.proofs.Common.{sym, ◌∙◌}
use Rattle.result_laws.proofs.sets.are_alike.Goals as goal

pub returns : goal.returns
returns c =
    record {
      alike = λ digits same.
          c.one_set.ensures.same_set _ _ c.sets_are_normal.ensures.normal c.sets_are_normal-2.ensures.normal digits
          (λ v. (λ h. (h.0, sym (same v h.0) ∙ h.1), λ h. (h.0, same v h.0 ∙ h.1)));
    }

use Rattle.std.proofs.Common.{sym, ◌∙◌}
use Rattle.result_laws.specs.OneResult.{itself}
use Rattle.result_laws.proofs.OneResult.{of_ok}
use Rattle.result_laws.proofs.SameSets.{never, one_operation}
use Rattle.result_laws.proofs.sets.one_combined.Goals as goal

pub returns : goal.returns
returns c =
    let r = c.combined-first.ensures in
    let s = c.combined-second.ensures in
    record {
      one = one_operation itself _ _ _ _ r.refused s.refused (never r.any_meaning) (never s.any_meaning) (λ a b is is'.
          of_ok _ is' (of_ok _ is c.results_are_alike.ensures.alike) (of_ok _ is r.digits ∙ sym (of_ok _ is' s.digits))
          (λ v fits. of_ok _ is r.contains v ∙ sym (of_ok _ is' s.contains v)));
    }

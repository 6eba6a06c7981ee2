use Rattle.std.proofs.Common.{sym, ◌∙◌}
use Rattle.result_laws.specs.OneResult.{itself}
use Rattle.result_laws.proofs.OneResult.{one, of_ok}
use Rattle.result_laws.proofs.SameSets.{plainly}
use Rattle.result_laws.proofs.version_ranges.one_range.Goals as goal

pub returns : goal.returns
returns c =
    let r = c.parse-first.ensures in
    let s = c.parse-second.ensures in
    record {
      one = one itself _ _ r.refusals s.refusals (λ a b is is' text.
          of_ok _ is' (of_ok _ is c.results_are_alike.ensures.alike) (of_ok _ is r.meaning ∙ sym (of_ok _ is' s.meaning))
          (λ v fits. of_ok _ is r.contains text.0 (plainly v) text.1 fits ∙ sym (of_ok _ is' s.contains text.0 (plainly v) text.1 fits)));
    }

use Rattle.result_laws.specs.SameSets.{comparison_value}
use Rattle.result_laws.proofs.LowestVersions.{one_lowest}
use Rattle.result_laws.proofs.OneResult.{of_ok}
use Rattle.result_laws.proofs.SameSets.{never, one_operation}
use Rattle.result_laws.proofs.sets.one_compare.Goals as goal

pub returns : goal.returns
returns c =
    let law = c.precedence_is_total.ensures in
    let r = c.compare.ensures in
    let s = c.compare-2.ensures in
    record {
      one = one_operation comparison_value _ _ _ _ r.refused s.refused (never r.any_meaning) (never s.any_meaning) (λ a b is is'.
          let lost = one_lowest law.total law.same _ a.lost b.lost (of_ok _ is r.lost) (of_ok _ is' s.lost) in
          let gained = one_lowest law.total law.same _ a.gained b.gained (of_ok _ is r.gained) (of_ok _ is' s.gained) in
          let shared = one_lowest law.total law.same _ a.shared b.shared (of_ok _ is r.shared) (of_ok _ is' s.shared) in
          λ i. record { lost = lost i; gained = gained i; shared = shared i });
    }

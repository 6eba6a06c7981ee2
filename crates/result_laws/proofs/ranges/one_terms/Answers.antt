use Rattle.std.proofs.Common.{sym, ◌∙◌}
use Rattle.result_laws.specs.OneResult.{itself}
use Rattle.result_laws.proofs.OneResult.{one, of_ok, with_memory}
use Rattle.result_laws.proofs.ranges.one_terms.Goals as goal

pub returns : goal.returns
returns c =
    let r = c.try_parse.ensures in
    let s = c.try_parse-2.ensures in
    record {
      one = with_memory _ _ r.no_memory s.no_memory
          (one itself _ _ r.refusals s.refusals
          (λ a b is is' has. of_ok _ is r.terms has.0 has.1 ∙ sym (of_ok _ is' s.terms has.0 has.1)));
    }

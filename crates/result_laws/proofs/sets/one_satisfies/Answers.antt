use Rattle.std.proofs.Common.{sym, ◌∙◌}
use Rattle.result_laws.specs.OneResult.{itself}
use Rattle.result_laws.proofs.OneResult.{one, of_ok, with_memory}
use Rattle.result_laws.proofs.sets.one_satisfies.Goals as goal

pub returns : goal.returns
returns c =
    let r = c.satisfies.ensures in
    let s = c.satisfies-2.ensures in
    record {
      one = with_memory _ _ r.no_memory s.no_memory (one itself _ _ r.refusals s.refusals
          (λ a b is is' text. of_ok _ is r.meaning text.0 text.1 ∙ sym (of_ok _ is' s.meaning text.0 text.1)));
    }

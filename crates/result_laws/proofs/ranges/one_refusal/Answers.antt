use Rattle.std.proofs.Common.{take}
use Rattle.invalid_strings.specs.Reasons.{byte_at}
use Rattle.result_laws.specs.OneResult.{itself}
use Rattle.result_laws.proofs.OneResult.{one_made, of_ok}
use Rattle.invalid_ranges.proofs.OneRefusal.{one_refused}
use Rattle.result_laws.proofs.ranges.one_refusal.Goals as goal

pub returns : goal.returns
returns c =
    let dialect = c.args.dialect in
    let text = c.args.text.now in
    record {
      one = one_made itself _ _ (λ a b is is'.
          one_refused dialect text (c.one_offset.ensures.same_offset dialect text)
          (c.one_limit_offset.ensures.same_offset dialect text)
          (λ n. c.one_reason.ensures.same_reason dialect (take n text) (byte_at text n)) a b (of_ok _ is c.refused.ensures.refused)
          (of_ok _ is' c.refused-2.ensures.refused));
    }

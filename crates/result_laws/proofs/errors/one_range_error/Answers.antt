use Rattle.result_laws.proofs.OneError.{HaveOne, one_of_range}
use Rattle.result_laws.proofs.errors.one_range_error.Goals as goal

pub returns : goal.returns
returns c =
    let one : HaveOne = record {
      offset = c.one_error.ensures.same_offset;
      reason = c.one_error.ensures.same_reason;
      span = c.one_span.ensures;
    } in
    record { one = one_of_range one c.args.dialect c.args.range.now c.args.error _ _ c.from_range.ensures c.from_range-2.ensures }

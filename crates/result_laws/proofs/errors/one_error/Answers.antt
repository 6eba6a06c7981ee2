use Rattle.result_laws.proofs.OneError.{HaveOne, one_of}
use Rattle.result_laws.proofs.errors.one_error.Goals as goal

pub returns : goal.returns
returns c =
    let one : HaveOne = record {
      offset = c.one_error.ensures.same_offset;
      reason = c.one_error.ensures.same_reason;
      span = c.one_span.ensures;
    } in
    record { one = one_of one c.args.expected c.args.dialect c.args.text.now _ _ c.from_string.ensures c.from_string-2.ensures }

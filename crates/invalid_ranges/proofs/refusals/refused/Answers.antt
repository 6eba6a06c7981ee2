use Rattle.invalid_ranges.proofs.RangeErrors.{has_error}
use Rattle.invalid_ranges.proofs.refusals.refused.Goals as goal

pub returns-clause-refused : goal.returns-clause-refused
returns-clause-refused c =
    let error = has_error c.args.dialect c.args.text.now c.check.result c.check.ensures.refusals c.check.ensures.no_memory
    c.in-Err.error c.in-Err.is in
    let told = c.in_ok-offset.ensures in
    record {
      range = (λ h. cc, λ set. absurd (error.no_set set));
      not_a_range = error.not_a_range;
      too_large = error.too_large;
      no_memory = error.kept;
      within = told.within;
      offset = told.offset;
      reason = told.reason;
      limit = λ is.
          let large = error.too_large.0 is in
          record { tree = large.0; spelled = large.1; is = told.limit is large.0 large.1 };
      limit_reason = told.limit_reason;
    }

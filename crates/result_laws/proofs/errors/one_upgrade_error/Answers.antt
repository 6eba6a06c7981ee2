use Rattle.result_laws.proofs.OneError.{HaveOne, one_of_upgrade}
use Rattle.result_laws.proofs.errors.one_upgrade_error.Goals as goal

pub returns : goal.returns
returns c =
    let one : HaveOne = record {
      offset = c.one_error.ensures.same_offset;
      reason = c.one_error.ensures.same_reason;
      span = c.one_span.ensures;
    } in
    record {
      one = one_of_upgrade one c.args.dialect c.args.version.now c.args.range.now c.args.error
          _ _ c.from_upgrade.ensures c.from_upgrade-2.ensures;
    }

use Rattle.semver_parser.specs.RangeViews.{set_of}
use Rattle.semver_parser.specs.RewritingTable.{rewritten}
use Rattle.result_laws.proofs.OneResult.{one_rewritten}
use Rattle.result_laws.proofs.ranges.one_parse.Goals as goal

pub returns : goal.returns
returns c =
    let r = c.parse.ensures in
    let s = c.parse-2.ensures in
    record { one = one_rewritten set_of (rewritten c.args.compat) _ _ r.refusals s.refusals r.as_rewritten s.as_rewritten }

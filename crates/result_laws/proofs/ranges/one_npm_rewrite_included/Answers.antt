use Rattle.semver_parser.specs.RangeViews.{set_of}
use Rattle.tool_ranges.specs.Rewritten.{rewritten_included}
use Rattle.result_laws.proofs.OneResult.{one_rewritten}
use Rattle.result_laws.proofs.ranges.one_npm_rewrite_included.Goals as goal

pub returns : goal.returns
returns c =
    let r = c.rewrite_included.ensures in
    let s = c.rewrite_included-2.ensures in
    record { one = one_rewritten set_of (rewritten_included) _ _ r.refusals s.refusals r.as_rewritten s.as_rewritten }

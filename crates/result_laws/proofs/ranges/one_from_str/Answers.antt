use Rattle.semver_parser.specs.RangeViews.{set_of}
use Rattle.semver_parser.specs.RewritingTable.{rewritten}
use Rattle.semver_parser.specs.declared.Compat.TheVariants.{Cargo}
use Rattle.result_laws.proofs.OneResult.{one_rewritten}
use Rattle.result_laws.proofs.ranges.one_from_str.Goals as goal

pub returns : goal.returns
returns c =
    let r = c.from_str.ensures.parsed in
    let s = c.from_str-2.ensures.parsed in
    record { one = one_rewritten set_of (rewritten Cargo) _ _ r.refusals s.refusals r.as_rewritten s.as_rewritten }

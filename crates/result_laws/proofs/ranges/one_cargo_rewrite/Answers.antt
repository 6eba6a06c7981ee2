use Rattle.semver_parser.specs.RangeViews.{set_of}
use Rattle.tool_ranges.specs.Dialects.{rewritten_as}
use Rattle.semver_ranges.specs.declared.dialect.Dialect.TheVariants.{Cargo}
use Rattle.result_laws.proofs.OneResult.{one_rewritten}
use Rattle.result_laws.proofs.ranges.one_cargo_rewrite.Goals as goal

pub returns : goal.returns
returns c =
    let r = c.rewrite.ensures in
    let s = c.rewrite-2.ensures in
    record { one = one_rewritten set_of (rewritten_as Cargo) _ _ r.refusals s.refusals r.as_rewritten s.as_rewritten }

use Rattle.std.proofs.Common.{sym, subst}
use Rattle.std.specs.List.{AllByRecursion}
use Rattle.range_terms.specs.Replacing.{IsReplaceable}
use Rattle.range_terms.proofs.Replaceable.{replaceable}
use Rattle.range_terms.specs.RewrittenVersions.{IsRewritable}
use Rattle.range_terms.proofs.RewrittenTerms.{rewritable}
use Rattle.tool_ranges.proofs.ReadingLaws.{answered_too}
use Rattle.range_terms.proofs.terms.Terms.try_parse.Goals as goal

pub returns-clause-refusals : goal.returns-clause-refusals
returns-clause-refusals c = answered_too _ _ _ c.in_ok-check.field-0 _ c.in_ok-check.ensures.refusals

pub returns-clause-replaceable : goal.returns-clause-replaceable
returns-clause-replaceable c =
    let d = c.args.dialect in
    let t = c.args.range.now in
    let has = c.in_ok-check.ensures.refusals.accepted in
    subst (λ xs. AllByRecursion (IsReplaceable d t) xs) (sym (c.of_range.ensures has.0 has.1)) (replaceable d has.0 t has.1 c.utf8.range)

pub returns-clause-rewritable : goal.returns-clause-rewritable
returns-clause-rewritable c =
    let d = c.args.dialect in
    let t = c.args.range.now in
    let has = c.in_ok-check.ensures.refusals.accepted in
    subst (λ xs. AllByRecursion (IsRewritable d t) xs) (sym (c.of_range.ensures has.0 has.1)) (rewritable d has.0 t has.1 c.utf8.range)

use Rattle.std.proofs.Common.{◌≤◌, ap, length, arith}
use Rattle.semver_ranges.specs.RangeTree.{is_blank}
use Rattle.semver_ranges.proofs.ReadingSteps.{back_shorter}
use Rattle.tool_ranges.proofs.ItemsFound.{items_found}
use Rattle.range_terms.specs.WrittenTerms.{terms_of}
use Rattle.range_terms.proofs.terms.of_range.Goals as goal

pub invariant_of-result : goal.invariant_of-result
invariant_of-result c =
    let short : length c.new.result.rest.now ≤ length c.args.range.now = rw (c.new.ensures.rest, c.as_bytes.ensures.value)
    (back_shorter (is_blank c.grammar-grammar.result) c.args.range.now) in
    omega (arith, short)

pub returns : goal.returns
returns c = λ tree spelled. rw (c.new.ensures.rest, c.new.ensures.begins, c.as_bytes.ensures.value, c.grammar-grammar.ensures.grammar)
    (ap (terms_of (length c.args.range.now) 0) (items_found c.args.dialect tree c.args.range.now spelled))

use Rattle.std.proofs.Common.{not, ap, ◌∙◌}
use Rattle.tool_ranges.proofs.TooLargeNumbers.{first, second}
use Rattle.tool_ranges.proofs.large_numbers.first_above.Goals as goal

pub returns-then-is_above-clause-value : goal.returns-then-is_above-clause-value
returns-then-is_above-clause-value c = λ p are.
    first c.args.most c.args.written.now.patch c.in-Number.major p c.args.written.now.minor (rw c.in-Number.is at are.components)
    (λ n is. c.is_above.ensures n is ∙ ap not c.if-is_above.true)

pub returns-then-is_above-2-clause-value : goal.returns-then-is_above-2-clause-value
returns-then-is_above-2-clause-value c = λ p are.
    second c.args.most c.args.written.now.patch c.in-Number.major p c.in-Number-minor.minor
    (rw (c.in-Number.is, c.in-Some.is, c.in-Number-minor.is) at are.components)
    (λ n is. c.is_above.ensures n is ∙ ap not c.if-is_above.false)
    (λ n is. c.is_above-2.ensures n is ∙ ap not c.if-is_above-2.true)

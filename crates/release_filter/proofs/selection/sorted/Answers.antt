use Rattle.std.proofs.Common.{◌≡◌, arith, map, rules}
use Rattle.std.proofs.lemmas.Grind.{common_steps}
use Rattle.release_filter.specs.Steps.Sorting.{seen_lines}
use Rattle.release_filter.specs.Steps.Taking.{selected_value}
use Rattle.release_filter.proofs.SortedLines.{by_version_total, compares, is_below, ranks, sorts}
use Rattle.release_filter.proofs.selection.sorted.Goals as goal

pub returns-in_err-push-clause-total_order : goal.returns-in_err-push-clause-total_order
returns-in_err-push-clause-total_order c = by_version_total c.precedence_is_total.ensures.total

pub returns-clause-total_order : goal.returns-clause-total_order
returns-clause-total_order c = by_version_total c.precedence_is_total.ensures.total

pub returns-clause-sorts : goal.returns-clause-sorts
returns-clause-sorts c =
    let total = c.precedence_is_total.ensures.total in
    let before = c.loop-line.lines.items in
    let after = c.sort_unstable_by.new.self.items in
    let all : seen_lines before ≡ map selected_value c.args.held.now = grind (arith, common_steps) in
    let sort = sorts total before after c.loop-line.invariant.indexed c.sort_unstable_by.ensures.permutation
    (c.sort_unstable_by.ensures.sorted is_below (ranks total) (compares (λ a r q k. search rules))) in
    (seen_lines after, rw (← all) sort, c.put_in_order.ensures)

use Rattle.std.proofs.Common.{◌∙◌, ap}
use Rattle.release_filter.specs.Steps.Sorting.{seen_lines}
use Rattle.release_filter.proofs.HeldLines.{seen_reversed}
use Rattle.release_filter.proofs.selection.put_in_order.Goals as goal

pub returns-in-Reversed : goal.returns-in-Reversed
returns-in-Reversed c = rw c.in-Reversed.is (ap seen_lines c.reverse.ensures.items ∙ seen_reversed c.args.lines.now.items)

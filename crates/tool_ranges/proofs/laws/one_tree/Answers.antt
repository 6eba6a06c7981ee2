use Rattle.tool_ranges.proofs.ReadingLaws.{one_tree}
use Rattle.tool_ranges.proofs.laws.one_tree.Goals as goal

pub returns : goal.returns
returns c = record { same_tree = one_tree }

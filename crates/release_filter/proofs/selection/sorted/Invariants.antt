-- The lines to sort so far are the first `line-index` held lines, each with its index.
use Rattle.std.proofs.Common.{◌≡◌, map, take}
use Rattle.release_filter.specs.Steps.Sorting.{seen_lines}
use Rattle.release_filter.specs.Steps.Taking.{selected_value}
use Rattle.release_filter.proofs.OneOrder.{AreIndexed}
use Rattle.release_filter.proofs.SortedLines.{index_of}
use Rattle.release_filter.proofs.selection.sorted.Given as goal

abbrev pub invariant-loop-line : goal.invariant-loop-line
invariant-loop-line l = record {
  held : seen_lines l.lines.items ≡ map selected_value (take l.line-index l.held);
  indexed : AreIndexed index_of l.lines.items;
}

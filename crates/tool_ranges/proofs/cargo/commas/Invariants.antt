use Rattle.std.proofs.Common.{◌≡◌, ◌≤◌, ◌+◌, drop}
use Rattle.tool_ranges.specs.Steps.TextEvents.{commas}
use Rattle.tool_ranges.proofs.cargo.commas.Given as goal

abbrev pub invariant-loop-at : goal.invariant-loop-at
invariant-loop-at l = (l.commas + commas (drop l.at l.text) ≡ commas l.text) × (l.commas ≤ l.at)

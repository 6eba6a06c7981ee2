use Rattle.std.proofs.Common.{true≢false, sym, ◌∙◌}
use Rattle.std.proofs.lemmas.Bool.{and_parts}
use Rattle.version_sets.specs.Steps.Ends.{in_each}
use Rattle.tool_ranges.specs.Steps.Matching.{states_at}
use Rattle.tool_ranges.proofs.at_or_above.has_numbers_of.Goals as goal

pub returns-in-None : goal.returns-in-None
returns-in-None c = (
  λ e. absurd (true≢false (sym e)),
  λ has.
      let parts = and_parts (in_each c.args.here.now has.0) (states_at c.args.partial.now has.0) has.2 in
      absurd (true≢false (sym parts.1 ∙ c.in-None.ensures has.0)),
)

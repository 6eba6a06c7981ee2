use Rattle.tool_ranges.proofs.SatisfiesErrors.{one_answer}
use Rattle.tool_ranges.proofs.laws.one_satisfies.Goals as goal

pub returns : goal.returns
returns c = record {
  one = one_answer c.one_version_in.ensures.same_version c.args.meaning c.args.version.now c.args.range.now _ _ c.satisfies.ensures.answer
      c.satisfies-2.ensures.answer;
}

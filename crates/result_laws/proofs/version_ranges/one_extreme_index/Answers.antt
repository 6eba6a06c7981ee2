use Rattle.tool_ranges.specs.VersionRanges.{versions_grammar}
use Rattle.tool_ranges.proofs.OneHighest.{one_found}
use Rattle.result_laws.proofs.version_ranges.one_extreme_index.Goals as goal

pub returns : goal.returns
returns c = record {
  one = one_found c.args.which (versions_grammar c.args.range.now) c.args.range.now.versions c.args.versions.now _ _ c.extreme_index.ensures
      c.extreme_index-2.ensures;
}

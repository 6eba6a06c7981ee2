use Rattle.result_laws.proofs.RangeResults.{one_contained}
use Rattle.result_laws.proofs.version_ranges.one_contains.Goals as goal

pub returns : goal.returns
returns c = record {
  one = one_contained c.one_version_in.ensures.same_version c.args.range.now c.args.version.now _ _ c.contains_bytes.ensures
      c.contains_bytes-2.ensures;
}

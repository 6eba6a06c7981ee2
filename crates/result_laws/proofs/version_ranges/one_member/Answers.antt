use Rattle.tool_ranges.specs.VersionRanges.{versions_grammar}
use Rattle.tool_ranges.proofs.OneMember.{one_found}
use Rattle.result_laws.proofs.version_ranges.one_member.Goals as goal

pub returns : goal.returns
returns c = record {
  one = one_found c.one_version_in.ensures.same_version (versions_grammar c.args.range.now) c.args.range.now.versions c.args.version.now _ _
      c.member.ensures c.member-2.ensures;
}

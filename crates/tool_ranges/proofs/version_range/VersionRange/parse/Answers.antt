use Rattle.tool_ranges.proofs.ReadingLaws.{answered_too}
use Rattle.tool_ranges.proofs.version_range.VersionRange.parse.Goals as goal

pub returns-clause-refusals : goal.returns-clause-refusals
returns-clause-refusals c = answered_too _ _ _ c.in_ok-versions.versions _ c.in_ok-versions.ensures.refusals

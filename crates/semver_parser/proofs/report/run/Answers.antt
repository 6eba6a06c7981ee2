use Rattle.semver_parser.proofs.ReportSteps.{writes_lines}
use Rattle.semver_parser.proofs.report.run.Goals as goal

pub returns : goal.returns
returns g c = record {
  lines = writes_lines _ c.version_shown-version.result c.range_shown-cargo.result c.range_shown-npm.result _ _ _
      c.version_shown-version.ensures c.range_shown-cargo.ensures c.range_shown-npm.ensures c.write_lines.ensures.writes
      c.write_lines.ensures.good;
}

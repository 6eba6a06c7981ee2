use Rattle.semver_texts.specs.VersionViews.{version_value}
use Rattle.semver_parser.proofs.ReportSteps.{shows_version, shows_error}
use Rattle.semver_parser.proofs.report.version_shown.Goals as goal

pub returns-in-Ok : goal.returns-in-Ok
returns-in-Ok c =
    shows_version _ c.printed_version.result (version_value c.in-Ok.version) c.in-Ok.ensures.outcome c.printed_version.ensures.value
    c.printed_version.ensures.error

pub returns-in-Err : goal.returns-in-Err
returns-in-Err c = shows_error _ c.in-Err.error c.in-Err.ensures.outcome c.in-Err.ensures.out_of_memory _ c.version_error_word.ensures

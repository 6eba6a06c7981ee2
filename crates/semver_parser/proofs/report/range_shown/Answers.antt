use Rattle.semver_ranges.specs.RangeViews.{set_of}
use Rattle.semver_parser.proofs.ReportSteps.{shows_set, shows_refusal}
use Rattle.semver_parser.proofs.report.range_shown.Goals as goal

pub returns-in-Ok : goal.returns-in-Ok
returns-in-Ok c =
    let found = c.in-Ok.ensures.refusals.accepted in
    shows_set c.args.compat c.args.text.now c.printed_set.result (set_of c.in-Ok.set) found.0 found.1 found.2
    (c.in-Ok.ensures.as_rewritten found.0 found.1) c.printed_set.ensures.value c.printed_set.ensures.error

pub returns-in-Err : goal.returns-in-Err
returns-in-Err c =
    shows_refusal c.args.compat c.args.text.now c.in-Err.error c.in-Err.ensures.refusals _ c.range_error_word.ensures

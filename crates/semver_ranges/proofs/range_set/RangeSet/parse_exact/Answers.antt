use Rattle.semver_ranges.specs.ExactBounds.{lowest_pre_release}
use Rattle.semver_ranges.proofs.ResultLaws.{refusals, as_rewritten, exact_meaning, exact_printable}
use Rattle.semver_ranges.proofs.ResultLaws.{printed_back, reads_back}
use Rattle.semver_ranges.proofs.range_set.RangeSet.parse_exact.Goals as goal

pub returns-clause-refusals : goal.returns-clause-refusals
returns-clause-refusals c = refusals lowest_pre_release c.args.input.now c.args.compat c.parse_with.result c.parse_with.ensures

pub returns-clause-as_rewritten : goal.returns-clause-as_rewritten
returns-clause-as_rewritten c = as_rewritten lowest_pre_release c.args.input.now c.args.compat c.parse_with.result c.parse_with.ensures

pub returns-clause-meaning : goal.returns-clause-meaning
returns-clause-meaning c = exact_meaning c.args.input.now c.args.compat c.parse_with.result c.parse_with.ensures

pub returns-clause-printable : goal.returns-clause-printable
returns-clause-printable c = exact_printable c.args.input.now c.args.compat c.parse_with.result c.parse_with.ensures

pub returns-clause-reads_back : goal.returns-clause-reads_back
returns-clause-reads_back c = printed_back c.args.input.now c.args.compat c.parse_with.result c.parse_with.ensures

pub returns-clause-reads_exactly_back : goal.returns-clause-reads_exactly_back
returns-clause-reads_exactly_back c = reads_back lowest_pre_release c.args.input.now c.args.compat c.parse_with.result c.parse_with.ensures

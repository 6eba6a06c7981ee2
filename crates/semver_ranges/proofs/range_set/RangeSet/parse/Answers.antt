use Rattle.std.proofs.Common.{[], refl}
use Rattle.semver_ranges.proofs.ResultLaws.{refusals, as_rewritten, meaning, releases, implied}
use Rattle.semver_ranges.proofs.ResultLaws.{printable, reads_back}
use Rattle.semver_ranges.proofs.range_set.RangeSet.parse.Goals as goal

pub returns-clause-refusals : goal.returns-clause-refusals
returns-clause-refusals c = refusals [] c.args.input.now c.args.compat c.parse_with.result c.parse_with.ensures

pub returns-clause-as_rewritten : goal.returns-clause-as_rewritten
returns-clause-as_rewritten c = as_rewritten [] c.args.input.now c.args.compat c.parse_with.result c.parse_with.ensures

pub returns-clause-meaning : goal.returns-clause-meaning
returns-clause-meaning c = meaning c.args.input.now c.args.compat c.parse_with.result c.parse_with.ensures

pub returns-clause-releases : goal.returns-clause-releases
returns-clause-releases c = releases c.args.input.now c.args.compat c.parse_with.result c.parse_with.ensures

pub returns-clause-implied : goal.returns-clause-implied
returns-clause-implied c = implied c.args.input.now c.args.compat c.parse_with.result c.parse_with.ensures

pub returns-clause-printable : goal.returns-clause-printable
returns-clause-printable c = printable [] c.args.input.now c.args.compat refl c.parse_with.result c.parse_with.ensures

pub returns-clause-reads_back : goal.returns-clause-reads_back
returns-clause-reads_back c = reads_back [] c.args.input.now c.args.compat c.parse_with.result c.parse_with.ensures

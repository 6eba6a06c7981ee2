use Rattle.tool_ranges.proofs.RewrittenSets.{cargo_rewrites, as_rewritten, printable, read_again, releases}
use Rattle.tool_ranges.proofs.cargo.rewrite.Goals as goal

pub returns-clause-as_rewritten : goal.returns-clause-as_rewritten
returns-clause-as_rewritten c = as_rewritten cargo_rewrites c.args.requirement.now c.rewrite_with.result c.rewrite_with.ensures.printed

pub returns-clause-releases : goal.returns-clause-releases
returns-clause-releases c = releases cargo_rewrites c.args.requirement.now c.rewrite_with.result c.rewrite_with.ensures.printed

pub returns-clause-printable : goal.returns-clause-printable
returns-clause-printable c = printable cargo_rewrites c.args.requirement.now c.rewrite_with.result c.rewrite_with.ensures.refusals.accepted c.rewrite_with.ensures.printed

pub returns-clause-reads_back : goal.returns-clause-reads_back
returns-clause-reads_back c = read_again cargo_rewrites c.args.requirement.now c.rewrite_with.result c.rewrite_with.ensures.refusals.accepted c.rewrite_with.ensures.printed

use Rattle.tool_ranges.proofs.RewrittenSets.{npm_rewrites, as_rewritten, printable, read_again, releases}
use Rattle.tool_ranges.proofs.npm.rewrite.Goals as goal

pub returns-clause-as_rewritten : goal.returns-clause-as_rewritten
returns-clause-as_rewritten c = as_rewritten npm_rewrites c.args.range.now c.rewrite_with.result c.rewrite_with.ensures.printed

pub returns-clause-releases : goal.returns-clause-releases
returns-clause-releases c = releases npm_rewrites c.args.range.now c.rewrite_with.result c.rewrite_with.ensures.printed

pub returns-clause-printable : goal.returns-clause-printable
returns-clause-printable c = printable npm_rewrites c.args.range.now c.rewrite_with.result c.rewrite_with.ensures.refusals.accepted c.rewrite_with.ensures.printed

pub returns-clause-reads_back : goal.returns-clause-reads_back
returns-clause-reads_back c = read_again npm_rewrites c.args.range.now c.rewrite_with.result c.rewrite_with.ensures.refusals.accepted c.rewrite_with.ensures.printed

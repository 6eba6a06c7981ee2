use Rattle.semver_tokens.proofs.parser.ErrorDisplay.fmt.Goals as goal

pub returns-in-UnexpectedEnd-clause-writes : goal.returns-in-UnexpectedEnd-clause-writes
returns-in-UnexpectedEnd-clause-writes g c = rw c.in-UnexpectedEnd.is c.write_str.ensures.writes

use Rattle.release_filter.proofs.Outcomes.{one_completion, one_piece}
use Rattle.release_filter.proofs.laws.one_outcome.Goals as goal

pub returns-clause-taking : goal.returns-clause-taking
returns-clause-taking c = one_piece c.one_version_in.ensures.same_version c.precedence_is_total.ensures.total

pub returns-clause-completion : goal.returns-clause-completion
returns-clause-completion c = one_completion c.one_version_in.ensures.same_version c.precedence_is_total.ensures.total

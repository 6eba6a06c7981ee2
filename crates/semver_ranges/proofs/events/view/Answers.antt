use Rattle.semver_ranges.proofs.FoundEvents.{view_empty, view_term}
use Rattle.semver_ranges.proofs.events.view.Goals as goal

pub returns-in-Term : goal.returns-in-Term
returns-in-Term c = λ d t x is. rw c.in-Term.is
    (view_term d c.args.grammar t x c.in-Term.term c.simples.result.0 c.simples.result.1 (rw c.in-Term.is at is) (c.simples.ensures d))

pub returns-in-EmptyRange : goal.returns-in-EmptyRange
returns-in-EmptyRange c = λ d t x is. rw c.in-EmptyRange.is
    (view_empty d c.args.grammar t x c.wildcard.result (rw c.in-EmptyRange.is at is) c.wildcard.ensures)

use Rattle.std.proofs.Common.{Option, Some, None, rules, subst}
use Rattle.std.specs.Iterator.{MakesProgress, YieldsFirstBy, item_count}
use Rattle.std.specs.declared.iter.Iterator.{can_next-default}
use Rattle.range_terms.specs.declared.term.Term.{Term}
use Rattle.range_terms.specs.declared.terms.Terms.{Terms}
use Rattle.range_terms.specs.Steps.{terms_left}
use Rattle.range_terms.specs.WrittenTerms.{term_value}
use Rattle.range_terms.proofs.terms.TermsIterator.next.Goals as goal

goes : (s t : Terms) (r : Option Term) → YieldsFirstBy term_value (λ terms. terms) s r t
    → MakesProgress (can_next-default Terms Term) (item_count (λ terms. terms)) s r t
goes s t None e = search rules
goes s t (Some x) e = rw e (search rules)

pub returns-clause-steps : goal.returns-clause-steps
returns-clause-steps c = subst
    (λ s. YieldsFirstBy term_value (λ terms. terms) s c.next_term.result
    (terms_left c.self.inside.grammar c.self.inside.len c.next_term.new.range c.next_term.new.cursor))
    c.self.view_is c.next_term.ensures.value

pub returns-clause-goes : goal.returns-clause-goes
returns-clause-goes c = goes c.args.self.now _ c.next_term.result (returns-clause-steps c)

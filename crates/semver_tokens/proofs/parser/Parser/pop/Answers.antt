use Rattle.std.proofs.Common.{sym, ◌∙◌, subst}
use Rattle.semver_tokens.specs.ParserState.{IsStateFrom}
use Rattle.semver_tokens.proofs.TokenAhead.{IsAhead, next_ok, pop_first, remaining_none}
use Rattle.semver_tokens.proofs.parser.Parser.pop.Goals as goal
use Rattle.semver_tokens.proofs.parser.Parser.pop.Goals.{In_ok-after}

-- the token that is ahead after the call
ahead : (c : In_ok-after) → IsAhead c.copy-lexer.result c.in_ok-after.after c.next.new.self
ahead c =
    next_ok c.copy-lexer.result c.next.new.self c.next.result c.in_ok-after.after c.next.ensures.steps
    (sym c.transpose.ensures ∙ c.in_ok-after.was)

pub invariant_of-self-2 : goal.invariant_of-self-2
invariant_of-self-2 c =
    let a = ahead (goal.at.invariant_of-self-2 c).In_ok-after in
    record {
      none = remaining_none c.in_ok-after.after c.next.new.self a.none;
      spelled = subst (IsStateFrom c.rest-rest.result.now) (sym c.copy-lexer.ensures.same ∙ a.state) c.rest-rest.ensures;
    }

pub returns : goal.returns
returns c =
    rw (← c.self.view_is, ← c.in-Some.ensures.value, ← c.copy-lexer.ensures.same)
    (pop_first _ _ _ _ (ahead (goal.at.returns c).In_ok-after))

use Rattle.std.proofs.Common.{◌≡◌, length, arith, ap, refl, sym, ◌∙◌, [], ◌∷◌, ◌++◌, None, append-nil, rules}
use Rattle.std.specs.Prelude.{map}
use Rattle.semver_tokens.specs.Views.{token_value}
use Rattle.semver_tokens.proofs.LexerItems.{none_remains, state_at_token}
use Rattle.semver_tokens.proofs.TokenAhead.{none_pending, gathered_more, tail_gives, none_is_no_token, error_is_no_token}
use Rattle.semver_tokens.proofs.parser.Parser.tail.Goals as goal
use Rattle.semver_tokens.proofs.parser.Parser.tail.Goals.{In-Some-Ok, in_default-next, in_default-next-2}

-- `next` takes the first token that remains
one_less : (c : In-Some-Ok)
    → c.loop-token.lexer ≡ record {
      remaining = token_value c.in-Some-Ok.token
          ∷ c.next-in-loop-token.new.self.remaining;
      pending = c.next-in-loop-token.new.self.pending;
    }
one_less c = state_at_token c.loop-token.lexer c.next-in-loop-token.new.self _ (rw c.in-Some-Ok.field-0-is at c.in-Some-Ok.ensures.steps)

pub loop-token-preserved : goal.loop-token-preserved
loop-token-preserved c =
    let one = one_less (goal.at.loop-token-preserved c).In-Some-Ok in
    record {
      can = tt;
      finite = tt;
      gathered =
          gathered_more c.loop-token.tokens.items _ _ c.loop-token.lexer c.next-in-loop-token.new.self _
          c.push_within-in-Some-Ok.ensures.items one c.loop-token.invariant.gathered;
      room =
          (let e = ap (λ s. length s.remaining) one in omega (
            arith,
            e,
            c.loop-token.invariant.room,
            c.push_within-in-Some-Ok.ensures.len,
            c.push_within-in-Some-Ok.ensures.capacity,
          ));
    }

-- no token remains after the loop
none : (c : goal.After-self-3-1) → c.loop-token.lexer.remaining ≡ []
none c = none_remains c.loop-token.lexer c.next-in-loop-token.new.self c.next-in-loop-token.result c.next-in-loop-token.ensures.steps
    (elim c.match-next.branch [
      | in_default-next w ↦ search (rules, error_is_no_token)
      | in_default-next-2 w ↦ none_is_no_token _ w.in_default-next.is
    ])

-- no character is pending after the loop
no_pending : (c : goal.After-self-3-1) → c.self.inside.lexer.pending ≡ None
no_pending c =
    let at_end = c.copy.ensures.same ∙ c.count_tokens-count.ensures.end in
    sym (ap (λ s. s.pending) at_end)
    ∙ none_pending c.copy.result c.next.new.self c.next.result c.next.ensures.steps (ap (λ s. s.remaining) at_end)
    (λ x e. c.in_default.not-Err x (c.transpose.ensures ∙ e))

pub returns-clause-answer : goal.returns-clause-answer
returns-clause-answer c =
    let all = sym (append-nil (map token_value c.loop-token.tokens.items))
    ∙ ap (λ l. map token_value c.loop-token.tokens.items ++ l) (sym (none c)) ∙ c.loop-token.invariant.gathered in
    tail_gives c.args.self.now _ c.take.new.self c.count_tokens-count.result.1 all
    (sym (ap (λ s. s.pending) c.self.view_is) ∙ no_pending c) c.take.ensures.after
    (c.count_tokens-count.ensures.end ∙ ap (λ p. record { remaining = []; pending = p }) (no_pending c))

pub returns-in_default-with_capacity-clause-out_of_memory : goal.returns-in_default-with_capacity-clause-out_of_memory
returns-in_default-with_capacity-clause-out_of_memory c = (refl, search rules, search rules)

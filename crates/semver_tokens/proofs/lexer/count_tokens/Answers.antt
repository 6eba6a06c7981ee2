use Rattle.std.proofs.Common.{◌≡◌, length, arith, ap, sym, ◌∙◌, [], ◌∷◌}
use Rattle.semver_tokens.specs.Views.{token_value}
use Rattle.semver_tokens.proofs.LexerItems.{none_remains, ended_state, state_at_token}
use Rattle.semver_tokens.proofs.lexer.count_tokens.Goals as goal
use Rattle.semver_tokens.proofs.lexer.count_tokens.Goals.{In_default, In-Some-Ok, in_default-via-in-Some+in_default}
use Rattle.semver_tokens.proofs.lexer.count_tokens.Goals.{in_default-via-in_default}

-- no token remains
none : (c : In_default) → c.loop-end.end.remaining ≡ []
none c =
    ap (λ s. s.remaining) (sym c.copy-ahead.ensures.same)
    ∙ none_remains c.copy-ahead.result c.next.new.self c.next.result c.next.ensures.steps (elim c.in_default.branch [
      | in_default-via-in-Some+in_default w ↦ (let h = w.in_default.is in λ t e. cc)
      | in_default-via-in_default w ↦ (let h = w.in_default.is in λ t e. cc)
    ])

-- `next` takes the first token that remains
one_less : (c : In-Some-Ok)
    → c.loop-end.end ≡ record {
      remaining = token_value c.in-Some-Ok.field-0-0
          ∷ c.next.new.self.remaining;
      pending = c.next.new.self.pending;
    }
one_less c = sym c.copy-ahead.ensures.same
    ∙ state_at_token c.copy-ahead.result c.next.new.self _ (rw c.in-Some-Ok.field-0-is at c.in-Some-Ok.ensures.steps)

pub returns-in_default-clause-count : goal.returns-in_default-clause-count
returns-in_default-clause-count c = omega (arith, c.loop-end.invariant.counted, ap length (none c))

pub returns-in_default-clause-end : goal.returns-in_default-clause-end
returns-in_default-clause-end c = ended_state c.loop-end.end _ (none c) c.loop-end.invariant.pending

pub loop-end-smaller : goal.loop-end-smaller
loop-end-smaller c = let e = ap (λ s. length s.remaining) (one_less c) in omega (arith, e)

pub loop-end-preserved : goal.loop-end-preserved
loop-end-preserved c = record {
  counted = (let e = ap (λ s. length s.remaining) (one_less c) in omega (arith, e, c.loop-end.invariant.counted));
  pending = sym (ap (λ s. s.pending) (one_less c)) ∙ c.loop-end.invariant.pending;
}

use Rattle.std.proofs.Common.{sym, ◌∙◌, subst, refl}
use Rattle.std.proofs.lemmas.Result.{err_from_is_err_and}
use Rattle.semver_tokens.specs.ParserState.{IsStateOf}
use Rattle.semver_tokens.proofs.TokenAhead.{IsAhead, next_ok, next_err, remaining_none, bad_start_at_error, no_bad_start}
use Rattle.semver_tokens.proofs.LexerSteps.{from_start}
use Rattle.semver_tokens.proofs.parser.Parser.new.Goals as goal
use Rattle.semver_tokens.proofs.parser.Parser.new.Goals.{In_ok-lookahead}

-- the token that was read ahead is the first one of the new lexer
ahead : (c : In_ok-lookahead) → IsAhead c.new-lexer.result c.in_ok-lookahead.lookahead c.next.new.self
ahead c =
    next_ok c.new-lexer.result c.next.new.self c.next.result c.in_ok-lookahead.lookahead c.next.ensures.steps
    (sym c.transpose.ensures ∙ c.in_ok-lookahead.was)

pub invariant_of-result : goal.invariant_of-result
invariant_of-result c =
    let a = ahead (goal.at.invariant_of-result c).In_ok-lookahead in
    record {
      none = remaining_none c.in_ok-lookahead.lookahead c.next.new.self a.none;
      spelled = from_start c.args.input.now _ (subst (IsStateOf c.args.input.now) a.state c.new-lexer.ensures.state);
    }

pub returns-clause-ok : goal.returns-clause-ok
returns-clause-ok c =
    subst (IsStateOf c.args.input.now) (ahead (goal.at.returns-clause-ok c).In_ok-lookahead).state c.new-lexer.ensures.state

pub returns-clause-bad_start : goal.returns-clause-bad_start
returns-clause-bad_start c =
    let a = ahead (goal.at.returns-clause-bad_start c).In_ok-lookahead in (
      λ e. cc,
      λ bad. absurd (no_bad_start c.args.input.now c.in_ok-lookahead.lookahead c.next.new.self c.utf8.input a.none
          (subst (IsStateOf c.args.input.now) a.state c.new-lexer.ensures.state) bad),
    )

pub returns-in_err-lookahead-clause-lexer : goal.returns-in_err-lookahead-clause-lexer
returns-in_err-lookahead-clause-lexer c =
    let p = err_from_is_err_and c.from_residual.result c.from_residual.ensures.1 in
    let q = next_err c.new-lexer.result c.next.new.self c.next.result c.in_err-lookahead.field-0.0 c.next.ensures.steps
    (sym c.transpose.ensures ∙ c.in_err-lookahead.was) in
    rw (p.1, p.2, q.1) (q.0, refl, subst (IsStateOf c.args.input.now) q.2 c.new-lexer.ensures.state)

pub returns-in_err-lookahead-clause-bad_start : goal.returns-in_err-lookahead-clause-bad_start
returns-in_err-lookahead-clause-bad_start c =
    let q = next_err c.new-lexer.result c.next.new.self c.next.result c.in_err-lookahead.field-0.0 c.next.ensures.steps
    (sym c.transpose.ensures ∙ c.in_err-lookahead.was) in (
      λ _. bad_start_at_error c.args.input.now q.0 (subst (IsStateOf c.args.input.now) q.2 c.new-lexer.ensures.state),
      λ _. c.from_residual.ensures.0,
    )

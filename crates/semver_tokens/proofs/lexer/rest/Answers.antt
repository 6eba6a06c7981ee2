use Rattle.semver_tokens.proofs.LexerSteps.{state_at_place, state_after_error}
use Rattle.semver_tokens.proofs.lexer.rest.Goals as goal

pub returns-then-lexer : goal.returns-then-lexer
returns-then-lexer c = rw (← c.lexer.view_is, c.if-lexer.true) (state_after_error c.lexer.inside.input.now c.lexer.inside.position)

pub returns : goal.returns
returns c =
    rw (c.range_from.ensures.value, ← c.lexer.view_is, c.if-lexer.false) (state_at_place c.lexer.inside.input.now c.lexer.inside.position)

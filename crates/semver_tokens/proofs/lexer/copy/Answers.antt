use Rattle.std.proofs.Common.{arith}
use Rattle.semver_tokens.proofs.LexerSteps.{length_left}
use Rattle.semver_tokens.proofs.lexer.copy.Goals as goal

pub returns-clause-small : goal.returns-clause-small
returns-clause-small c =
    rw (← c.lexer.view_is) (omega (
      arith,
      length_left c.lexer.inside.input.now c.lexer.inside.position c.lexer.inside.failed,
      c.lexer.told.1,
    ))

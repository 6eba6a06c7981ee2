use Rattle.std.proofs.lemmas.Str.{IsCharBoundary-start}
use Rattle.semver_tokens.proofs.LexerSteps.{state_at_start}
use Rattle.semver_tokens.proofs.lexer.Lexer.new.Goals as goal

pub invariant_of-result : goal.invariant_of-result
invariant_of-result c = IsCharBoundary-start c.args.input.now c.utf8.input

pub returns : goal.returns
returns c = record { state = state_at_start c.args.input.now }

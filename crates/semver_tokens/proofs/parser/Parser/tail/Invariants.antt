use Rattle.std.proofs.Common.{◌≡◌, ◌+◌, ◌≤◌, ◌++◌, length, vec_len}
use Rattle.std.specs.Prelude.{map, vec_capacity}
use Rattle.semver_tokens.specs.Views.{token_value}
use Rattle.semver_tokens.proofs.parser.Parser.tail.Given as goal

abbrev pub invariant-loop-token : goal.invariant-loop-token
invariant-loop-token l = record {
  can : (goal.iterator-loop-token).can_next l.lexer;
  finite : (goal.iterator-loop-token).is_finite l.lexer;
  gathered : map token_value l.tokens.items ++ l.lexer.remaining ≡ l.fn.self.remaining;
  room : vec_len l.tokens + length l.lexer.remaining ≤ vec_capacity l.tokens;
}

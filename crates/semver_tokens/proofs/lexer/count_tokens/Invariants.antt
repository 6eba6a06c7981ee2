use Rattle.std.proofs.Common.{◌≡◌, ◌+◌, length}
use Rattle.semver_tokens.proofs.lexer.count_tokens.Given as goal

abbrev pub invariant-loop-end : goal.invariant-loop-end
invariant-loop-end l =
    record { counted : l.count + length l.end.remaining ≡ length l.lexer.remaining; pending : l.end.pending ≡ l.lexer.pending }

abbrev pub decreases-loop-end : goal.decreases-loop-end
decreases-loop-end l = length l.end.remaining

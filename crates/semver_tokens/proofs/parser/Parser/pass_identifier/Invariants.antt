use Rattle.std.proofs.Common.{◌≡◌, List, length, true}
use Rattle.semver_tokens.specs.Tokens.{TokenValue}
use Rattle.semver_tokens.specs.Steps.Taking.{lone_number}
use Rattle.semver_tokens.proofs.IdentifierSteps.{IsRead}
use Rattle.semver_tokens.proofs.parser.Parser.pass_identifier.Given as goal

abbrev pub invariant-loop-number : goal.invariant-loop-number
invariant-loop-number l =
    record { front : List TokenValue; taken : IsRead l.fn.self front true l.self; number : l.number ≡ lone_number front }

abbrev pub decreases-loop-number : goal.decreases-loop-number
decreases-loop-number l = length l.self.remaining

use Rattle.std.proofs.Common.{ap}
use Rattle.semver_tokens.specs.Tokens.{TokenValue}
use Rattle.semver_tokens.specs.ParserSteps.{Step, and_then, valued, number_of}
use Rattle.semver_tokens.proofs.parser.Parser.numeric.Goals as goal

pub returns-in-Numeric : goal.returns-in-Numeric
returns-in-Numeric c =
    let taken = rw c.in-Numeric.is at c.in_ok-token.ensures in
    record { step = ap (λ (p : Step TokenValue). and_then p (λ t. valued (number_of t) t)) taken }

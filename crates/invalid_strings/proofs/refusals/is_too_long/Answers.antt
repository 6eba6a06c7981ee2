use Rattle.std.proofs.Common.{arith}
use Rattle.invalid_strings.proofs.AnyLength.{never_too_long}
use Rattle.invalid_strings.proofs.refusals.is_too_long.Goals as goal

pub returns-then-not-has_limit : goal.returns-then-not-has_limit
returns-then-not-has_limit c = (λ h. cc, λ w. absurd (c.has_limit.ensures c.if-not-has_limit.true c.args.text.now w))

pub returns-then-text-le-MAX_LENGTH : goal.returns-then-text-le-MAX_LENGTH
returns-then-text-le-MAX_LENGTH c = (λ h. cc, λ w. absurd (never_too_long c.args.grammar c.args.text.now (omega arith) w))

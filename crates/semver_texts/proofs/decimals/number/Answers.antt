use Rattle.std.proofs.Common.{sym, ◌∙◌}
use Rattle.semver_texts.proofs.Numbers.{no_digit}
use Rattle.semver_texts.proofs.decimals.number.Goals as goal

pub returns-then-not-begins_with_digit : goal.returns-then-not-begins_with_digit
returns-then-not-begins_with_digit c = no_digit c.args.bytes.now (sym c.begins_with_digit.ensures ∙ c.if-not-begins_with_digit.true)

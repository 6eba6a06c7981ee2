use Rattle.std.proofs.Common.{rules, sym, ◌∙◌}
use Rattle.semver_ranges.proofs.ComponentSteps.{wildcard_front, zero_front, digits_front}
use Rattle.semver_ranges.proofs.grammar.read_component.Goals as goal

pub returns-in-48 : goal.returns-in-48
returns-in-48 c = search (rules, zero_front)

pub returns-in-len1-up : goal.returns-in-len1-up
returns-in-len1-up c =
    digits_front c.args.text.now c.read_digits-number.result.1.now c.from.result c.read_digits-number.result.0 c.in-len1-up.len_at_least
    (sym c.is_ascii_digit.ensures.value ∙ c.if-is_ascii_digit.true) (search rules) c.from.ensures
    c.read_digits-number.ensures.value c.read_digits-number.ensures.rest

pub returns-in-120 : goal.returns-in-120
returns-in-120 c = wildcard_front c.args.text.now c.in-120.len_at_least (search rules)

use Rattle.std.proofs.Common.{refl, sym, ◌∙◌}
use Rattle.semver_texts.proofs.Numbers.{number_read, too_large, leading_zero, one_digit}
use Rattle.semver_texts.proofs.decimals.number_at_digit.Goals as goal

pub returns-then-not-begins_with_digit : goal.returns-then-not-begins_with_digit
returns-then-not-begins_with_digit c =
    one_digit c.args.bytes.now _ refl c.requires
    (sym c.begins_with_digit.ensures ∙ c.if-not-begins_with_digit.true) c.from.result c.from.ensures

pub returns-then-first-eq48 : goal.returns-then-first-eq48
returns-then-first-eq48 c =
    leading_zero c.args.bytes.now _ refl c.if-first-eq48.true (sym c.begins_with_digit.ensures ∙ c.if-not-begins_with_digit.false)

pub returns-in_err-number : goal.returns-in_err-number
returns-in_err-number c = rw c.from_residual.ensures (too_large c.args.bytes.now c.in_err-number.ensures)

pub returns : goal.returns
returns c =
    let read = c.in_ok-number.ensures in
    number_read c.args.bytes.now _ c.in_ok-number.number c.in_ok-number.len
    c.requires c.if-first-eq48.false read.0 read.1 read.2 refl

use Rattle.std.proofs.Common.{◌≡◌, ◌+◌, get_or, true, false, sym, ◌∙◌, arith}
use Rattle.std.specs.Char.{is_ascii_digit}
use Rattle.std.proofs.lemmas.List.Sums.{prefix_len-drop_no, prefix_len-drop_all}
use Rattle.semver_texts.proofs.Numbers.{front_read, value_more, value_before, goes_on}
use Rattle.semver_texts.proofs.decimals.digits.Goals as goal

pub returns-then-not-is_ascii_digit : goal.returns-then-not-is_ascii_digit
returns-then-not-is_ascii_digit c =
    let other : is_ascii_digit (get_or c.args.bytes.now c.loop-at.at 0) ≡ false = sym c.is_ascii_digit.ensures.value
    ∙ c.if-not-is_ascii_digit.true in
    let q = front_read c.args.bytes.now c.loop-at.at c.loop-at.number (omega arith)
    (prefix_len-drop_no is_ascii_digit c.args.bytes.now c.loop-at.at 0 c.loop-at-test.true other)
    c.loop-at.invariant.1 c.loop-at.invariant.2 in
    (c.loop-at.invariant.0, q.0, q.1)

pub returns-in_err-number : goal.returns-in_err-number
returns-in_err-number c =
    let digit : is_ascii_digit (get_or c.args.bytes.now c.loop-at.at 0) ≡ true = sym c.is_ascii_digit.ensures.value
    ∙ c.if-not-is_ascii_digit.false in
    rw c.from_residual.ensures (omega (
      arith,
      c.in_err-number.ensures,
      value_more c.args.bytes.now c.loop-at.at c.loop-at.number c.loop-at-test.true digit c.loop-at.invariant.1,
      value_before c.args.bytes.now (c.loop-at.at + 1)
          (goes_on c.args.bytes.now c.loop-at.at c.loop-at-test.true digit c.loop-at.invariant.2),
    ))

pub loop-at-preserved : goal.loop-at-preserved
loop-at-preserved c =
    let digit : is_ascii_digit (get_or c.args.bytes.now c.loop-at.at 0) ≡ true = sym c.is_ascii_digit.ensures.value
    ∙ c.if-not-is_ascii_digit.false in (
      c.in_ok-number.ensures.0,
      c.in_ok-number.ensures.1 ∙ value_more c.args.bytes.now c.loop-at.at c.loop-at.number c.loop-at-test.true digit c.loop-at.invariant.1,
      goes_on c.args.bytes.now c.loop-at.at c.loop-at-test.true digit c.loop-at.invariant.2,
    )

pub returns : goal.returns
returns c =
    let q = front_read c.args.bytes.now c.loop-at.at c.loop-at.number (omega arith)
    (prefix_len-drop_all is_ascii_digit c.args.bytes.now c.loop-at.at (omega arith)) c.loop-at.invariant.1 c.loop-at.invariant.2 in (
      c.loop-at.invariant.0,
      q.0,
      omega (arith, q.1),
    )

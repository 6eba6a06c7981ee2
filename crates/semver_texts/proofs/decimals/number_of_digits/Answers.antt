use Rattle.std.proofs.Common.{ap, sym, ◌∙◌, arith, subst, ◌≤◌, ◌^◌}
use Rattle.std.proofs.lemmas.Bool.Decides.{nat_tests}
use Rattle.std.specs.Prelude.{length}
use Rattle.std.specs.Str.Parse.{digits_value}
use Rattle.semver_texts.proofs.Numbers.{all_read, none_of_digits}
use Rattle.semver_texts.proofs.decimals.number_of_digits.Goals as goal

pub returns-in_err-number : goal.returns-in_err-number
returns-in_err-number c =
    rw c.from_residual.ensures (none_of_digits c.args.part.now
    (λ whole. let large = subst (λ t. 2 ^ 64 ≤ digits_value 10 t) whole c.in_err-number.ensures in grind (arith, nat_tests)))

pub returns-then-len-part : goal.returns-then-len-part
returns-then-len-part c =
    let read = c.in_ok-number.ensures in
    all_read c.args.part.now c.in_ok-number.number (sym c.if-len-part.true ∙ read.2) read.0 read.1

pub returns-else-len-part : goal.returns-else-len-part
returns-else-len-part c =
    none_of_digits c.args.part.now (λ whole. absurd (c.if-len-part.false (c.in_ok-number.ensures.2 ∙ ap length whole)))

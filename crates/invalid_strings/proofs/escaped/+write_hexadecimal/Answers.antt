use Rattle.std.proofs.Common.{false, refl, sym, arith}
use Rattle.std.proofs.Output.{has_written_styled_append, has_written_styled_of_eq}
use Rattle.std.proofs.lemmas.Fmt.{hex_one_digit}
use Rattle.invalid_strings.proofs.Hexadecimal.{hexadecimal_more}
use Rattle.invalid_strings.proofs.escaped.+write_hexadecimal.Goals as goal

pub returns-then-number-lt16 : goal.returns-then-number-lt16
returns-then-number-lt16 g t c = λ flush ok.
    has_written_styled_of_eq _ _ _ _ _ (sym (hex_one_digit false c.args.number c.if-number-lt16.true)) (c.write_digit.ensures flush ok)

pub returns : goal.returns
returns g t c = λ flush ok.
    let upper = c.in_ok-write_hexadecimal.ensures flush refl in
    has_written_styled_of_eq _ _ _ _ _ (sym (hexadecimal_more c.args.number (omega arith) (omega arith)))
    (has_written_styled_append _ _ _ _ _ _ upper (c.write_digit-2.ensures upper.flush ok))

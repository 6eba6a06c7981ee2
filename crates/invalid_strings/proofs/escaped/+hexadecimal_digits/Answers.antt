use Rattle.std.proofs.Common.{◌∷◌, [], ◌%◌, ◌/◌, false, length, sym, ap, ◌∙◌, arith, length-append}
use Rattle.std.specs.Fmt.{digit_glyph, digits}
use Rattle.std.proofs.lemmas.Fmt.{hex_one_digit}
use Rattle.invalid_strings.proofs.Hexadecimal.{hexadecimal_more}
use Rattle.invalid_strings.proofs.escaped.+hexadecimal_digits.Goals as goal

pub returns-then-number-lt16-clause-digits : goal.returns-then-number-lt16-clause-digits
returns-then-number-lt16-clause-digits t c = sym (ap length (hex_one_digit false c.args.number (omega arith)))

pub returns-else-number-lt16-clause-digits : goal.returns-else-number-lt16-clause-digits
returns-else-number-lt16-clause-digits t c =
    let n = c.args.number in
    let is = ap length (hexadecimal_more n (omega arith) (omega arith))
    ∙ length-append (digits 16 false (n / 16)) (digit_glyph false (n % 16) ∷ []) in
    omega (arith, is, c.hexadecimal_digits.ensures.digits)

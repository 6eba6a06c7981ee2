use Rattle.std.proofs.Common.{refl}
use Rattle.std.proofs.Output.{has_written_styled_append}
use Rattle.invalid_strings.proofs.escaped.write_number.Goals as goal

pub returns : goal.returns
returns g c = λ flush ok.
    let first = c.in_ok-write_str.ensures.styled flush refl in
    let second = c.in_ok-write_hexadecimal.ensures first.flush refl in
    has_written_styled_append _ _ _ _ _ _ first
    (has_written_styled_append _ _ _ _ _ _ second (c.write_str-2.ensures.styled second.flush ok))

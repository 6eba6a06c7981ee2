use Rattle.std.proofs.Common.{refl}
use Rattle.std.proofs.Output.{has_written_styled_append}
use Rattle.semver_errors.proofs.printing.write_reason_lines.Goals as goal

pub returns : goal.returns
returns g c = λ flush ok.
    let kind = c.in_ok-write_str.ensures.styled flush refl in
    let colon = c.in_ok-write_str-2.ensures.styled kind.flush refl in
    let rest = c.write_quoted.ensures colon.flush ok in
    let both = has_written_styled_append _ _ _ _ _ _ kind (has_written_styled_append _ _ _ _ _ _ colon rest) in
    rw (c.kind_text.ensures, c.invalid_kind.ensures, c.sentence.ensures) at both

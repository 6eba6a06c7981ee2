use Rattle.std.proofs.Common.{refl}
use Rattle.std.proofs.Output.{has_written_styled_append}
use Rattle.semver_errors.proofs.printing.write_quoted.Goals as goal

pub returns : goal.returns
returns g c = λ flush ok.
    let kind = c.in_ok-write_str.ensures.styled flush refl in
    let before = c.in_ok-write_str-2.ensures.styled kind.flush refl in
    let text = c.in_ok-write_escaped.ensures.styled before.flush refl in
    let after = c.write_str-3.ensures.styled text.flush ok in
    has_written_styled_append _ _ _ _ _ _ kind (has_written_styled_append _ _ _ _ _ _ before
    (has_written_styled_append _ _ _ _ _ _ text after))

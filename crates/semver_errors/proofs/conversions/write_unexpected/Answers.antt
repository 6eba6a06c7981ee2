use Rattle.std.proofs.Common.{refl}
use Rattle.std.proofs.Output.{has_written_styled_append}
use Rattle.semver_errors.proofs.conversions.write_unexpected.Goals as goal

pub returns : goal.returns
returns g c = λ flush ok.
    let before = c.in_ok-write_str.ensures.styled flush refl in
    let character = c.in_ok-write_character.ensures before.flush refl in
    let after = c.write_str-2.ensures.styled character.flush ok in
    has_written_styled_append _ _ _ _ _ _ before (has_written_styled_append _ _ _ _ _ _ character after)

use Rattle.std.proofs.Common.{refl}
use Rattle.std.proofs.Output.{has_written_styled_append}
use Rattle.semver_errors.proofs.printing.write_with_carets.Goals as goal

pub returns : goal.returns
returns g c = λ flush ok.
    let lines = c.in_ok-write_reason_lines.ensures flush refl in
    has_written_styled_append _ _ _ _ _ _ lines (c.write_carets.ensures lines.flush ok)

use Rattle.std.proofs.Common.{ap, sym}
use Rattle.std.proofs.Output.{has_written_styled_of_eq}
use Rattle.semver_errors.specs.ErrorTexts.{marked_of}
use Rattle.semver_errors.specs.ErrorValues.{value_of}
use Rattle.semver_errors.proofs.printing.write_marked.Goals as goal

pub returns-in-Invalid : goal.returns-in-Invalid
returns-in-Invalid g c = λ flush ok.
    let told = rw (c.as_str.ensures.value) at (c.write_with_carets.ensures flush ok) in
    has_written_styled_of_eq _ _ _ _ _ (ap (λ x. marked_of (value_of x)) (sym c.in-Invalid.is)) told

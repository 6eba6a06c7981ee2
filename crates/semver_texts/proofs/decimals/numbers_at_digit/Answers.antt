use Rattle.std.proofs.Common.{subst}
use Rattle.semver_texts.specs.Texts.{BeginsWithNumber}
use Rattle.semver_texts.proofs.Numbers.{no_second, no_third}
use Rattle.semver_texts.proofs.decimals.numbers_at_digit.Goals as goal

pub returns-in_err-minor : goal.returns-in_err-minor
returns-in_err-minor c =
    rw c.from_residual-in_err-minor.ensures (no_second c.args.bytes.now c.in_ok-major.rest.now c.in_ok-major.major
    c.in_ok-major.ensures c.in_err-minor.ensures)

pub returns-in_err-patch : goal.returns-in_err-patch
returns-in_err-patch c =
    let second = c.in_ok-minor.ensures in
    let first = subst (BeginsWithNumber c.args.bytes.now c.in_ok-major.major) second.1 c.in_ok-major.ensures in
    rw c.from_residual-in_err-patch.ensures (no_third c.args.bytes.now second.0 c.in_ok-minor.rest.now c.in_ok-major.major
    c.in_ok-minor.minor first second.2 c.in_err-patch.ensures)

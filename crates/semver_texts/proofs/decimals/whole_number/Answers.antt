use Rattle.std.proofs.Common.{sym, ◌∙◌}
use Rattle.semver_texts.proofs.Numbers.{none_whole, more_after}
use Rattle.semver_texts.proofs.decimals.whole_number.Goals as goal

pub returns-in_err-number : goal.returns-in_err-number
returns-in_err-number c =
    rw c.from_residual.ensures (rw c.as_bytes.ensures.value at (none_whole c.as_bytes.result.now c.in_err-number.ensures))

pub returns-else-is_empty : goal.returns-else-is_empty
returns-else-is_empty c =
    rw c.as_bytes.ensures.value at (more_after c.as_bytes.result.now c.in_ok-number.rest.now c.in_ok-number.number
    c.in_ok-number.ensures (sym c.is_empty.ensures ∙ c.if-is_empty.false))

use Rattle.std.proofs.Common.{[], ◌∷◌, arith, ap, decimal, length, length-append, map, subst}
use Rattle.std.specs.List.{join_with_byte}
use Rattle.semver_texts.specs.ToolVersions.{before_numbers}
use Rattle.semver_versions.specs.Steps.Reading.{IsRead}
use Rattle.semver_versions.proofs.ReadTexts.{bytes_before, digit_begins, no_numbers, one_before, borrowed_from}
use Rattle.semver_versions.proofs.ReadVersions.{its_numbers}
use Rattle.semver_versions.proofs.reader.read_ref_at_any_length.Goals as goal

pub returns-in_err-at : goal.returns-in_err-at
returns-in_err-at c =
    let (at, before, none) = c.in_err-at.ensures in
    rw c.from_residual.ensures (λ v rest is read.
    no_numbers none (its_numbers (subst (IsRead c.args.grammar v) (one_before c.args.grammar c.args.input.now rest at is before) read)))

pub returns-in_err-major : goal.returns-in_err-major
returns-in_err-major c = rw c.from_residual-in_err-major.ensures (λ v rest is read.
    c.in_err-major.ensures _ _ _ _ (its_numbers (subst (IsRead c.args.grammar v)
    (one_before c.args.grammar c.args.input.now rest c.in_ok-at.at.now is c.in_ok-at.ensures.0) read)))

pub returns : goal.returns
returns c =
    let text = c.args.input.now in
    let rest = c.in_ok-at.at.now in
    let before = c.in_ok-at.ensures.0 in
    let n = c.in_ok-major.ensures in
    let front = join_with_byte 46 (map decimal (c.in_ok-major.major ∷ c.in_ok-major.minor ∷ c.in_ok-major.patch ∷ [])) in
    let at = bytes_before c.args.grammar text rest before (digit_begins n) in
    borrowed_from c.args.grammar text rest c.after_numbers.result before
    (c.after_numbers.ensures rest (before_numbers text) n
    (omega (arith, at, ap length n.split, length-append front c.in_ok-major.rest.now)))

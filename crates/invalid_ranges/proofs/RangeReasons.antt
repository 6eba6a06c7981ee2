-- There is only one reason why a text is not a range.
use Rattle.std.proofs.Common.{◌≡◌, ◌∙◌, ℕ, Option, sym}
use Rattle.semver_texts.specs.Texts.{Text}
use Rattle.invalid_strings.specs.declared.reasons.Reason.{Reason}
use Rattle.invalid_strings.proofs.VersionLaws.{same_test}
use Rattle.semver_ranges.specs.declared.dialect.Dialect.{Dialect}
use Rattle.invalid_ranges.specs.RangeReasons.{IsReasonAs, reason_by}

pub one_reason : (d : Dialect) (prefix : Text) (next : Option ℕ) (x y : Reason) → IsReasonAs d prefix next x
    → IsReasonAs d prefix next y → x ≡ y
one_reason d prefix next x y a b =
    a.is
    ∙ (λ i. reason_by d (same_test a.complete b.complete _ a.is_complete b.is_complete i)
    (same_test a.letter b.letter _ a.takes_letter b.takes_letter i) prefix next)
    ∙ sym b.is

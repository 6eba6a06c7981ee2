-- A range text has at most one error, with one offset and one reason.
use Rattle.std.proofs.Common.{◌≡◌, ◌∙◌, ℕ, Option, Some, None, refl, subst, sym, ap, drop, take}
use Rattle.semver_texts.specs.Texts.{Text}
use Rattle.semver_ranges.specs.declared.range_set.RangeError.{RangeError}
use Rattle.semver_ranges.specs.declared.range_set.RangeError.TheVariants.{NotARange, NumberTooLarge, OutOfMemory}
use Rattle.invalid_strings.specs.Prefixes.{IsLongestPrefix}
use Rattle.invalid_strings.specs.Reasons.{byte_at}
use Rattle.invalid_strings.specs.declared.reasons.Reason.{Reason}
use Rattle.invalid_ranges.specs.Prefixes.{BeginsAs}
use Rattle.invalid_ranges.specs.RangeReasons.{IsReasonAs}
use Rattle.invalid_ranges.specs.TooLarge.{IsLimitOffset, limit_reason}
use Rattle.invalid_ranges.specs.Refusals.{IsRefusalAs}
use Rattle.semver_ranges.specs.declared.dialect.Dialect.{Dialect}
use Rattle.invalid_ranges.specs.declared.refusals.Refusal.{Refusal}

-- two errors are equal if their parts are
same : (r s : Refusal) → r.error ≡ s.error → r.offset ≡ s.offset → r.reason ≡ s.reason → r ≡ s
same r s error offset reason = λ i. record { error = error i; offset = offset i; reason = reason i }

module _ (dialect : Dialect) (t : Text)
    (one_offset : (m n : ℕ) → IsLongestPrefix (BeginsAs dialect) t m → IsLongestPrefix (BeginsAs dialect) t n → m ≡ n)
    (one_limit : (m n : ℕ) → IsLimitOffset dialect t m → IsLimitOffset dialect t n → m ≡ n)
    (one_reason : (n : ℕ) (x y : Reason) → IsReasonAs dialect (take n t) (byte_at t n) x → IsReasonAs dialect (take n t) (byte_at t n) y
    → x ≡ y) where
  by_error : (e : RangeError) (r s : Refusal) → r.error ≡ e → IsRefusalAs dialect t (Some r) → IsRefusalAs dialect t (Some s) → r ≡ s
  by_error NotARange r s is a b =
      let also = b.not_a_range.1 (a.not_a_range.0 is) in
      let offset : r.offset ≡ s.offset = one_offset r.offset s.offset (a.offset is) (b.offset also) in
      same r s (is ∙ sym also) offset
      (one_reason s.offset r.reason s.reason
      (subst (λ n. IsReasonAs dialect (take n t) (byte_at t n) r.reason) offset (a.reason is)) (b.reason also))
  by_error NumberTooLarge r s is a b =
      let also = b.too_large.1 (a.too_large.0 is) in
      let offset : r.offset ≡ s.offset = one_limit r.offset s.offset (a.limit is) (b.limit also) in
      same r s (is ∙ sym also) offset
      (a.limit_reason is ∙ ap (λ n. limit_reason dialect (drop n t)) offset ∙ sym (b.limit_reason also))
  by_error OutOfMemory r s is a b = absurd (a.no_memory is)

  pub one_refused : (x y : Option Refusal) → IsRefusalAs dialect t x → IsRefusalAs dialect t y → x ≡ y
  one_refused None y a b = sym (b.range.1 (a.range.0 refl))
  one_refused x None a b = a.range.1 (b.range.0 refl)
  one_refused (Some r) (Some s) a b = ap Some (by_error r.error r s refl a b)

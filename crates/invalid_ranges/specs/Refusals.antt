-- Where and why a text is invalid as a range.
use Rattle.std.specs.Prelude.{◌≡◌, ◌≢◌, ◌≤◌, ◌↔◌, Option, None, IfSome, drop, length, take}
use Rattle.semver_texts.specs.Texts.{Text}
use Rattle.semver_ranges.specs.declared.range_set.RangeError.TheVariants.{NotARange}
use Rattle.semver_ranges.specs.declared.range_set.RangeError.TheVariants.{NumberTooLarge}
use Rattle.semver_ranges.specs.declared.range_set.RangeError.TheVariants.{OutOfMemory}
use Rattle.invalid_strings.specs.Prefixes.{IsLongestPrefix}
use Rattle.invalid_strings.specs.Reasons.{byte_at}
use Rattle.tool_ranges.specs.Dialects.{HasSetAs, IsTextAs, IsTooLargeAs}
use Rattle.invalid_ranges.specs.Prefixes.{BeginsAs}
use Rattle.invalid_ranges.specs.RangeReasons.{IsReasonAs}
use Rattle.invalid_ranges.specs.TooLarge.{IsLimitOffset, limit_reason}
use Rattle.semver_ranges.specs.declared.dialect.Dialect.{Dialect}
use Rattle.invalid_ranges.specs.declared.refusals.Refusal.{Refusal}

-- the error of a text in a dialect, with its offset and reason, or that there is no error
pub record IsRefusalAs (d : Dialect) (text : Text) (found : Option Refusal) : Type 0 where
  -- there is no error if and only if the text is a range whose numbers fit
  pub range : (found ≡ None) ↔ HasSetAs d text
  pub not_a_range : IfSome found (λ r. (r.error ≡ NotARange) ↔ ¬ (IsTextAs d text))
  pub too_large : IfSome found (λ r. (r.error ≡ NumberTooLarge) ↔ IsTooLargeAs d text)
  pub no_memory : IfSome found (λ r. r.error ≢ OutOfMemory)
  pub within : IfSome found (λ r. r.offset ≤ length text)
  -- some range text begins with the bytes before the offset, and none with a longer prefix
  pub offset : IfSome found (λ r.
      r.error ≡ NotARange → IsLongestPrefix (BeginsAs d) text r.offset)
  -- the reason is the one for the bytes before the offset and the byte at the offset
  pub reason : IfSome found (λ r. r.error ≡ NotARange
      → IsReasonAs d (take r.offset text) (byte_at text r.offset) r.reason)
  -- the offset is that of the number that is too large, in the first term that doesn't fit
  pub limit : IfSome found (λ r. r.error ≡ NumberTooLarge → IsLimitOffset d text r.offset)
  -- the reason says whether that number is above the limit of the dialect or can't be raised
  pub limit_reason : IfSome found (λ r.
      r.error ≡ NumberTooLarge → r.reason ≡ limit_reason d (drop r.offset text))

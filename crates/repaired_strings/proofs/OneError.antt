-- A string has only one first error, and a valid string has none.
use Rattle.std.proofs.Common.{◌≡◌, ◌∙◌, ℕ, Some, ap, subst, sym, take}
use Rattle.semver_texts.specs.Texts.{Text}
use Rattle.invalid_strings.specs.Prefixes.{IsLongestPrefix}
use Rattle.invalid_strings.specs.Reasons.{IsReason, byte_at}
use Rattle.invalid_strings.specs.VersionPrefixes.{IsLongestVersionPrefix}
use Rattle.invalid_strings.specs.declared.reasons.Reason.{Reason}
use Rattle.invalid_ranges.specs.Prefixes.{BeginsAs}
use Rattle.invalid_ranges.specs.RangeReasons.{IsReasonAs}
use Rattle.invalid_ranges.specs.TooLarge.{IsLimitOffset}
use Rattle.invalid_ranges.proofs.OneRefusal.{one_refused}
use Rattle.semver_ranges.specs.DialectTable.{grammar_of}
use Rattle.semver_ranges.specs.declared.dialect.Dialect.{Dialect}
use Rattle.repaired_strings.specs.Errors.{IsErrorAt, IsRangeErrorAt, IsValid}
use Rattle.repaired_strings.specs.declared.errors.Expected.{Expected}
use Rattle.repaired_strings.specs.declared.errors.Expected.TheVariants.{Version, Range}

-- what is known of errors of versions, and of ranges
pub record AreOneOfVersions (d : Dialect) (t : Text) : Type 0 where
  pub offset : (m n : ℕ) → IsLongestVersionPrefix (grammar_of d) t m → IsLongestVersionPrefix (grammar_of d) t n → m ≡ n
  pub reason : (n : ℕ) (x y : Reason) → IsReason (grammar_of d) (take n t) (byte_at t n) x
      → IsReason (grammar_of d) (take n t) (byte_at t n) y → x ≡ y

pub record AreOneOfRanges (d : Dialect) (t : Text) : Type 0 where
  pub offset : (m n : ℕ) → IsLongestPrefix (BeginsAs d) t m → IsLongestPrefix (BeginsAs d) t n → m ≡ n
  pub limit : (m n : ℕ) → IsLimitOffset d t m → IsLimitOffset d t n → m ≡ n
  pub reason : (n : ℕ) (x y : Reason) → IsReasonAs d (take n t) (byte_at t n) x → IsReasonAs d (take n t) (byte_at t n) y → x ≡ y

module _ (d : Dialect) (t : Text) (v : AreOneOfVersions d t) (r : AreOneOfRanges d t) where
  one_of_ranges : (m n : ℕ) (x y : Reason) (a : IsRangeErrorAt d t m x) (b : IsRangeErrorAt d t n y) → a.refusal ≡ b.refusal
  one_of_ranges m n x y a b =
      let same = one_refused d t r.offset r.limit r.reason (Some a.refusal) (Some b.refusal) a.is b.is in cc

  pub same_offset : (e : Expected) (m n : ℕ) (x y : Reason) → IsErrorAt e d t m x → IsErrorAt e d t n y → m ≡ n
  same_offset Version m n x y (wrong, at, why) (wrong', at', why') = v.offset m n at at'
  same_offset Range m n x y a b = a.at ∙ ap (λ r. r.offset) (one_of_ranges m n x y a b) ∙ sym b.at

  pub same_reason : (e : Expected) (m n : ℕ) (x y : Reason) → IsErrorAt e d t m x → IsErrorAt e d t n y → x ≡ y
  same_reason Version m n x y (wrong, at, why) (wrong', at', why') =
      v.reason n x y (subst (λ k. IsReason (grammar_of d) (take k t) (byte_at t k) x) (v.offset m n at at') why) why'
  same_reason Range m n x y a b = a.why ∙ ap (λ r. r.reason) (one_of_ranges m n x y a b) ∙ sym b.why

  pub invalid : (e : Expected) (n : ℕ) (x : Reason) → IsErrorAt e d t n x → ¬ (IsValid e d t)
  invalid Version n x (wrong, at, why) valid = wrong valid
  invalid Range n x a valid = absurd (let none = a.is.range.1 valid in cc)

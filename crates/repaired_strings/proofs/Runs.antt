-- A run of bytes of the same kind isn't empty, and begins and ends between two characters.
use Rattle.std.proofs.Common.{◌≡◌, ℕ, ◌-◌, ◌+◌, ◌<◌, ◌≤◌, true, false, Some, length, slice_index, sym, ◌∙◌, arith, inl, inr}
use Rattle.std.specs.Prelude.{nat_le, nat_lt, ◌==◌, ◌&&◌}
use Rattle.std.specs.Char.{is_ascii_alphabetic, is_ascii_digit}
use Rattle.std.specs.Str.{IsCharBoundary, IsUtf8}
use Rattle.std.proofs.lemmas.Bool.{and_parts, cases_lt, true≢false}
use Rattle.std.proofs.lemmas.Bool.Decides.{nat_tests}
use Rattle.std.proofs.lemmas.Str.{IsCharBoundary-after_ascii, IsCharBoundary-before_ascii, IsCharBoundary-end, IsCharBoundary-start}
use Rattle.repaired_strings.specs.Spans.{IsRunAround, is_of_same_kind, is_sign, kind_at, touches_digit}
use Rattle.semver_texts.specs.Texts.{Text}
use Rattle.semver_texts.proofs.Lists.{by_test}
use Rattle.semver_texts.specs.WhiteSpace.{is_ascii_white_space}
use Rattle.invalid_strings.specs.Reasons.{byte_at}
use Rattle.invalid_strings.specs.declared.reasons.Reason.{Reason}
use Rattle.invalid_strings.specs.declared.reasons.Reason.TheVariants.{LeadingZero}
use Rattle.range_terms.specs.declared.term.Span.{Span}

same_self : (b : ℕ) → is_of_same_kind b b ≡ true
same_self b = grind (arith, nat_tests)

less : (m n : ℕ) → nat_lt m n ≡ true → m < n
less m n e = grind (arith, nat_tests)

digit_low : (c : ℕ) → is_ascii_digit c ≡ true → c < 128
digit_low c e = grind (arith, nat_tests)

letter_low : (c : ℕ) → is_ascii_alphabetic c ≡ true → c < 128
letter_low c e = grind (arith, nat_tests)

sign_low : (c : ℕ) → is_sign c ≡ true → c < 128
sign_low c e = grind (arith, nat_tests)

white_low : (c : ℕ) → is_ascii_white_space c ≡ true → c < 128
white_low c e = grind (arith, nat_tests)

same_low : (b c : ℕ) → b < 128 → (c == b) ≡ true → c < 128
same_low b c low e = grind (arith, nat_tests)

low_kind : (b c : ℕ) → b < 128 → is_of_same_kind b c ≡ true → c < 128
low_kind b c low same = by_test (is_ascii_digit b)
    (λ e. digit_low c (rw e at same))
    (λ e. let same = rw e at same in by_test (is_ascii_alphabetic b)
    (λ e. letter_low c (rw e at same))
    (λ e. let same = rw e at same in by_test (is_sign b)
    (λ e. sign_low c (rw e at same))
    (λ e. let same = rw e at same in by_test (is_ascii_white_space b)
    (λ e. white_low c (rw e at same))
    (λ e. let high : nat_le 128 b ≡ false = grind (arith, nat_tests) in
    same_low b c low (rw (e, high) at same)))))

high_kind : (b c : ℕ) → 128 ≤ b → is_of_same_kind b c ≡ false → c < 128
high_kind b c high other = grind (arith, nat_tests)

module _ (t : Text) (k b : ℕ) (span : Span) (run : IsRunAround (is_of_same_kind b) t k span) where
  pub begins : IsUtf8 t → span.start < span.end → IsCharBoundary t span.start
  begins utf8 some = let within = run.within in elim (cases_lt b 128) [
    | inl low ↦ IsCharBoundary-before_ascii t span.start (omega (arith, some, within))
        (low_kind b _ low (run.all span.start (omega arith) some))
    | inr high ↦ elim (cases_lt 0 span.start) [
      | inl more ↦
          let before = IsCharBoundary-after_ascii t (span.start - 1) utf8 (omega (arith, some, within, more))
          (high_kind b _ high (run.before more)) in
          let same : span.start - 1 + 1 ≡ span.start = omega (arith, more) in
          rw same at before
      | inr none ↦ let same : span.start ≡ 0 = omega (arith, none) in rw same (IsCharBoundary-start t utf8)
    ]
  ]

  pub ends : IsUtf8 t → span.start < span.end → IsCharBoundary t span.end
  ends utf8 some = let within = run.within in elim (cases_lt b 128) [
    | inl low ↦
        let after = IsCharBoundary-after_ascii t (span.end - 1) utf8 (omega (arith, some, within))
        (low_kind b _ low (run.all (span.end - 1) (omega (arith, some)) (omega (arith, some)))) in
        let same : span.end - 1 + 1 ≡ span.end = omega (arith, some) in
        rw same at after
    | inr high ↦ elim (cases_lt span.end (length t)) [
      | inl more ↦ IsCharBoundary-before_ascii t span.end more (high_kind b _ high (run.after more))
      | inr none ↦ let same : span.end ≡ length t = omega (arith, none, within) in rw same (IsCharBoundary-end t)
    ]
  ]

  -- a run isn't empty if a byte beside the offset is in it
  some_before : 0 < k → is_of_same_kind b (slice_index t (k - 1)) ≡ true → span.start < span.end
  some_before more same = elim (cases_lt span.start span.end) [
    | inl some ↦ some
    | inr none ↦
        let at : span.start ≡ k = omega (arith, none, run.start, run.end) in
        absurd (true≢false (sym same ∙ rw (← at) (run.before (omega (arith, at, more)))))
  ]

  some_after : k < length t → is_of_same_kind b (slice_index t k) ≡ true → span.start < span.end
  some_after more same = elim (cases_lt span.start span.end) [
    | inl some ↦ some
    | inr none ↦
        let at : span.end ≡ k = omega (arith, none, run.start, run.end) in
        absurd (true≢false (sym same ∙ rw (← at) (run.after (omega (arith, at, more)))))
  ]

-- the span of a kind that was found isn't empty
module _ (t : Text) (k : ℕ) (span : Span) where
  abbrev IsRun : ℕ → Type 0
  IsRun b = IsRunAround (is_of_same_kind b) t k span

  some_byte : (b : ℕ) → byte_at t k ≡ Some b → IsRun b → span.start < span.end
  some_byte b found run = by_test (nat_lt k (length t))
      (λ e. let same : slice_index t k ≡ b = let h = rw e at found in cc in
      some_after t k b span run (less k (length t) e) (rw same (same_self b)))
      (λ e. absurd (let h = rw e at found in cc))

  some_digit : touches_digit t k ≡ true → IsRun 48 → span.start < span.end
  some_digit e run = by_test (nat_lt 0 k && is_ascii_digit (slice_index t (k - 1)))
      (λ f. let parts = and_parts (nat_lt 0 k) _ f in some_before t k 48 span run (less 0 k parts.0) parts.1)
      (λ f. let parts = and_parts (nat_lt k (length t)) _ (let h = rw f at e in h) in
      some_after t k 48 span run (less k (length t) parts.0) parts.1)

  some_number : (b : ℕ) → kind_at t k LeadingZero ≡ Some b → IsRun b → span.start < span.end
  some_number b found run = by_test (touches_digit t k)
      (λ e. let same : 48 ≡ b = let h = rw e at found in cc in some_digit e (rw same run))
      (λ e. some_byte b (rw e at found) run)

  pub some : (r : Reason) (b : ℕ) → kind_at t k r ≡ Some b → IsRun b → span.start < span.end
  some LeadingZero b found run = some_number b found run
  some _ b found run = some_byte b found run

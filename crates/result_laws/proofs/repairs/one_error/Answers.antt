use Rattle.std.proofs.Common.{◌≡◌, ℕ, Option, Some, None, MatchOption, IfSome, refl, ap}
use Rattle.semver_texts.specs.Texts.{Text}
use Rattle.invalid_strings.specs.declared.reasons.Reason.{Reason}
use Rattle.semver_ranges.specs.declared.dialect.Dialect.{Dialect}
use Rattle.repaired_strings.specs.Errors.{IsErrorAt, IsValid}
use Rattle.repaired_strings.specs.declared.errors.Expected.{Expected}
use Rattle.repaired_strings.specs.declared.errors.StringError.{StringError}
use Rattle.result_laws.specs.OneResult.{itself}
use Rattle.result_laws.proofs.OneResult.{of_ok, one_made}
use Rattle.result_laws.proofs.repairs.one_error.Goals as goal

-- the clauses of `first_error` for its result: an error of the text, or none
record IsAnswer (e : Expected) (d : Dialect) (t : Text) (o : Option StringError) : Type 0 where
  valid : MatchOption o (IsValid e d t) (λ x. ¬ (IsValid e d t))
  error : IfSome o (λ x. IsErrorAt e d t x.offset x.reason)

module _ (e : Expected) (d : Dialect) (t : Text)
    (one_offset : (m n : ℕ) (x y : Reason) → IsErrorAt e d t m x → IsErrorAt e d t n y → m ≡ n)
    (one_reason : (m n : ℕ) (x y : Reason) → IsErrorAt e d t m x → IsErrorAt e d t n y → x ≡ y) where
  one_answer : (o p : Option StringError) → IsAnswer e d t o → IsAnswer e d t p → o ≡ p
  one_answer None None a b = refl
  one_answer None (Some s) a b = absurd (b.valid a.valid)
  one_answer (Some r) None a b = absurd (a.valid b.valid)
  one_answer (Some r) (Some s) a b =
      let offset = one_offset r.offset s.offset r.reason s.reason a.error b.error in
      let reason = one_reason r.offset s.offset r.reason s.reason a.error b.error in
      ap Some (λ i. record { offset = offset i; reason = reason i })

pub returns : goal.returns
returns c =
    let first = c.first_error.ensures in
    let second = c.first_error-2.ensures in
    let laws = c.one_error.ensures in
    let e = c.args.expected in
    let d = c.args.dialect in
    let t = c.args.text.now in
    record {
      one = one_made itself _ _ (λ a b is is'.
          one_answer e d t (laws.same_offset e d t) (laws.same_reason e d t) a b
          (record { valid = of_ok _ is first.valid; error = of_ok _ is first.error })
          (record { valid = of_ok _ is' second.valid; error = of_ok _ is' second.error }));
    }

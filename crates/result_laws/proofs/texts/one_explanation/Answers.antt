use Rattle.std.proofs.Common.{◌≡◌, ℕ, Option, Some, None, MatchOption, refl, ap, subst, take}
use Rattle.semver_texts.specs.Texts.{Text}
use Rattle.semver_texts.specs.ToolVersions.{IsVersionTextIn}
use Rattle.semver_texts.specs.declared.grammar.Grammar.{Grammar}
use Rattle.invalid_strings.specs.Reasons.{IsReason, byte_at}
use Rattle.invalid_strings.specs.VersionPrefixes.{IsLongestVersionPrefix}
use Rattle.invalid_strings.specs.declared.reasons.Reason.{Reason}
use Rattle.invalid_strings.specs.declared.refusals.Refusal.{Refusal}
use Rattle.result_laws.proofs.OneResult.{one_made, of_ok}
use Rattle.result_laws.specs.OneResult.{itself}
use Rattle.result_laws.proofs.texts.one_explanation.Goals as goal

-- the clauses of `explain` for its result: an error of the text, or none
record IsAnswer (g : Grammar) (t : Text) (o : Option Refusal) : Type 0 where
  version : MatchOption o (IsVersionTextIn g t) (λ r. ¬ (IsVersionTextIn g t))
  offset : MatchOption o (Unit {0}) (λ r. IsLongestVersionPrefix g t r.offset)
  reason : MatchOption o (Unit {0}) (λ r. IsReason g (take r.offset t) (byte_at t r.offset) r.reason)

module _ (g : Grammar) (t : Text)
    (one_offset : (m n : ℕ) → IsLongestVersionPrefix g t m → IsLongestVersionPrefix g t n → m ≡ n)
    (one_reason : (n : ℕ) (x y : Reason) → IsReason g (take n t) (byte_at t n) x → IsReason g (take n t) (byte_at t n) y → x ≡ y) where
  one_answer : (o p : Option Refusal) → IsAnswer g t o → IsAnswer g t p → o ≡ p
  one_answer None None a b = refl
  one_answer None (Some s) a b = absurd (b.version a.version)
  one_answer (Some r) None a b = absurd (a.version b.version)
  one_answer (Some r) (Some s) a b =
      let offset : r.offset ≡ s.offset = one_offset r.offset s.offset a.offset b.offset in
      let reason : r.reason ≡ s.reason =
      one_reason s.offset r.reason s.reason (subst (λ n. IsReason g (take n t) (byte_at t n) r.reason) offset a.reason) b.reason in
      ap Some (λ i. record { offset = offset i; reason = reason i })

pub returns : goal.returns
returns c =
    let first = c.explain.ensures in
    let second = c.explain-2.ensures in
    let text = c.args.text.now in
    record {
      one = one_made itself _ _ (λ a b is is'.
          one_answer c.args.grammar text (c.one_longest_prefix.ensures.same_offset c.args.grammar text)
          (λ n. c.one_reason.ensures.same_reason c.args.grammar (take n text) (byte_at text n)) a b
          (record { version = of_ok _ is first.version; offset = of_ok _ is first.offset; reason = of_ok _ is first.reason })
          (record { version = of_ok _ is' second.version; offset = of_ok _ is' second.offset; reason = of_ok _ is' second.reason }));
    }

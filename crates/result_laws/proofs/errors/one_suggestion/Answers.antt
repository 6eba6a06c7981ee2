use Rattle.std.proofs.Common.{◌≡◌, Option, Some, None, IfNone, IfSome, String, Global, refl, ap, option_map, string_bytes}
use Rattle.semver_texts.specs.Texts.{Text}
use Rattle.semver_ranges.specs.declared.dialect.Dialect.{Dialect}
use Rattle.repaired_strings.specs.Errors.{IsValid}
use Rattle.repaired_strings.specs.Repairs.{AreRepairs, IsBeyondRepair}
use Rattle.repaired_strings.specs.declared.errors.Expected.{Expected}
use Rattle.semver_errors.specs.ErrorValues.{CannotUpgrade, Converted, DifferentRules, ErrorValue, HasNoSuggestion, Invalid}
use Rattle.semver_errors.specs.ErrorValues.{IsSuggestion, OutOfMemory, UnknownName}
use Rattle.result_laws.proofs.OneResult.{of_ok, one_made}
use Rattle.result_laws.proofs.errors.one_suggestion.Goals as goal

-- the clauses of `suggestion` for its result: a valid string, or none
record IsAnswer (error : ErrorValue) (o : Option (String Global)) : Type 0 where
  some : IfSome o (λ s. IsSuggestion error (string_bytes s))
  none : IfNone o (HasNoSuggestion error)

module _ (same : (e : Expected) (d : Dialect) (t x y : Text)
    → AreRepairs e d t x → IsValid e d x → AreRepairs e d t y → IsValid e d y → x ≡ y)
    (never : (e : Expected) (d : Dialect) (t x : Text) → AreRepairs e d t x → IsValid e d x → ¬ (IsBeyondRepair e d t)) where
  one_text : (error : ErrorValue) (x y : Text) → IsSuggestion error x → IsSuggestion error y → x ≡ y
  one_text (Invalid e d t p) x y a b = same e d t x y a.1 a.0 b.1 b.0
  one_text (CannotUpgrade r) x y a b = absurd a
  one_text (UnknownName n k) x y a b = absurd a
  one_text DifferentRules x y a b = absurd a
  one_text (Converted k s) x y a b = absurd a
  one_text OutOfMemory x y a b = absurd a

  not_both : (error : ErrorValue) (x : Text) → IsSuggestion error x → ¬ (HasNoSuggestion error)
  not_both (Invalid e d t p) x a = never e d t x a.1 a.0
  not_both (CannotUpgrade r) x a = absurd a
  not_both (UnknownName n k) x a = absurd a
  not_both DifferentRules x a = absurd a
  not_both (Converted k s) x a = absurd a
  not_both OutOfMemory x a = absurd a

  one_answer : (error : ErrorValue) (o p : Option (String Global)) → IsAnswer error o → IsAnswer error p
      → option_map string_bytes o ≡ option_map string_bytes p
  one_answer error None None a b = refl
  one_answer error None (Some s) a b = absurd (not_both error (string_bytes s) b.some a.none)
  one_answer error (Some r) None a b = absurd (not_both error (string_bytes r) a.some b.none)
  one_answer error (Some r) (Some s) a b = ap Some (one_text error (string_bytes r) (string_bytes s) a.some b.some)

pub returns : goal.returns
returns c =
    let first = c.suggestion.ensures in
    let second = c.suggestion-2.ensures in
    let laws = c.one_repaired.ensures in
    record {
      one = one_made (option_map string_bytes) _ _ (λ a b is is'.
          one_answer laws.same laws.none c.args.error.now a b
          (record { some = of_ok _ is first.some; none = of_ok _ is first.none })
          (record { some = of_ok _ is' second.some; none = of_ok _ is' second.none }));
    }

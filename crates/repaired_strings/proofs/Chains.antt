-- One more repair after some, and numbers without leading zeros.
use Rattle.std.proofs.Common.{◌≡◌, ◌≢◌, ◌==◌, ℕ, suc, List, [], ◌∷◌, ◌++◌, length, ◌+◌, refl, ap, arith}
use Rattle.std.proofs.lemmas.Bool.{eqb-true}
use Rattle.semver_texts.specs.Texts.{Text}
use Rattle.semver_texts.proofs.Lists.{by_test}
use Rattle.semver_ranges.specs.declared.dialect.Dialect.{Dialect}
use Rattle.repaired_strings.specs.Repairs.{IsRepairOf, LeadsTo, without_zeros}
use Rattle.repaired_strings.specs.declared.errors.Expected.{Expected}

-- some repairs of a text that led to another one
pub record HasLed (e : Expected) (d : Dialect) (n : ℕ) (t last : Text) : Type 0 where
  pub texts : List Text
  pub leads : LeadsTo e d t texts last
  pub count : length texts ≡ n

module _ (e : Expected) (d : Dialect) where
  put_last : (t : Text) (texts : List Text) (u v : Text) → LeadsTo e d t texts u → IsRepairOf e d u v
      → LeadsTo e d t (texts ++ (v ∷ [])) v
  put_last t [] u v is last = (rw is last, refl)
  put_last t (next ∷ others) u v (first, more) last = (first, put_last next others u v more last)

  longer : (texts : List Text) (v : Text) → length (texts ++ (v ∷ [])) ≡ suc (length texts)
  longer [] v = refl
  longer (t ∷ texts) v = ap suc (longer texts v)

  pub one_more : (n : ℕ) (t u v : Text) → HasLed e d n t u → IsRepairOf e d u v → HasLed e d (n + 1) t v
  one_more n t u v led last = record {
    texts = led.texts ++ (v ∷ []);
    leads = put_last t led.texts u v led.leads last;
    count = omega (arith, longer led.texts v, led.count);
  }

-- a number that doesn't begin with a zero
pub no_zero : (t : Text) → ((rest : Text) → t ≢ (48 ∷ []) ++ rest) → t ≡ without_zeros t
no_zero [] other = refl
no_zero (b ∷ []) other = refl
no_zero (b ∷ c ∷ t) other = by_test (b == 48)
    (λ e. let zero : b ≡ 48 = eqb-true b 48 e in absurd (other (c ∷ t) (rw zero refl)))
    (λ e. rw e refl)

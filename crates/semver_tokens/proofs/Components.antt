-- The token of a run of letters and digits.
use Rattle.std.proofs.Common.{◌≡◌, ℕ, ◌^◌, ◌<◌, List, length, sym, refl, ap, ◌∙◌, decimal}
use Rattle.std.specs.Str.Parse.{digits_value}
use Rattle.std.proofs.lemmas.Bool.{cond_both, both_ways}
use Rattle.semver_texts.specs.Texts.{IsNumber}
use Rattle.semver_texts.specs.Steps.Decimals.{is_number}
use Rattle.semver_texts.proofs.Numbers.{IsCanonical, is_number_true, canonical_from_is_number, canonical_from_IsNumber}
use Rattle.semver_texts.proofs.Numbers.{IsNumber-from_canonical, digits_value_number}
use Rattle.semver_tokens.specs.Tokens.{TokenValue, Numeric, AlphaNumeric}
use Rattle.semver_tokens.specs.Steps.Scanning.{component}

-- the token of a run is `Numeric` if the run is a number, and `AlphaNumeric` otherwise
pub component_cases : (run : List ℕ) (P : TokenValue → Type 0) → (IsCanonical run → P (Numeric (digits_value 10 run)))
    → (¬ (IsCanonical run) → P (AlphaNumeric run)) → P (component run)
unfolding component
component_cases run P number other =
    cond_both (is_number run) _ _ P (λ e. number (canonical_from_is_number run e)) (λ e. other (λ c. both_ways _ e (is_number_true run c)))

pub component_number : (run : List ℕ) → IsCanonical run → component run ≡ Numeric (digits_value 10 run)
component_number run c = component_cases run (λ t. t ≡ Numeric (digits_value 10 run)) (λ c. refl) (λ other. absurd (other c))

pub component_other : (run : List ℕ) → ¬ (IsCanonical run) → component run ≡ AlphaNumeric run
component_other run other = component_cases run (λ t. t ≡ AlphaNumeric run) (λ c. absurd (other c)) (λ other. refl)

pub component_decimal : (run : List ℕ) (n : ℕ) → n < 2 ^ 64 → run ≡ decimal n → Numeric n ≡ component run
component_decimal run n small same = ap Numeric (sym (digits_value_number run n small same))
    ∙ sym (component_number run (canonical_from_IsNumber run (n, small, same)))

pub component_text : (run : List ℕ) → 0 < length run → ¬ (IsNumber run) → AlphaNumeric run ≡ component run
component_text run some other = sym (component_other run (λ c. other (IsNumber-from_canonical run some c)))

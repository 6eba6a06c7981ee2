-- The component at the beginning of a text, as the code reads it byte by byte.
use Rattle.std.proofs.Common.{add-one}
use Rattle.std.proofs.Common.{◌≡◌, ℕ, ◌+◌, ◌-◌, ◌*◌, ◌<◌, ◌≤◌, true, false, ◌==◌, [], ◌∷◌, length, get_or, take, drop}
use Rattle.std.proofs.Common.{Option, Some, refl, ap, ◌∙◌, arith}
use Rattle.std.specs.Char.{is_ascii_digit, digit_value}
use Rattle.std.specs.Str.Parse.{digits_value}
use Rattle.std.proofs.Math.Seq.{take-length, take-suc}
use Rattle.std.proofs.lemmas.Bool.Decides.{nat_tests}
use Rattle.std.proofs.lemmas.Str.{digit_value_digit}
use Rattle.std.proofs.lemmas.Int.Digits.{digits_value_push}
use Rattle.semver_ranges.specs.RangeTree.{is_wildcard}
use Rattle.semver_ranges.specs.Partials.{fits_u64}
use Rattle.semver_texts.specs.Texts.{Text}
use Rattle.semver_ranges.specs.Steps.Reading.{front, back, component}
use Rattle.semver_ranges.specs.Steps.PartialViews.{IsValue}

-- a text that isn't empty is its first byte and the rest
pub first_apart : (t : Text) → 1 ≤ length t → t ≡ get_or t 0 0 ∷ take (length t - 1) (drop 1 t)
first_apart [] some = absurd (omega (arith, some))
first_apart (x ∷ xs) some = grind (arith, take-length xs)

-- a text that begins with a wildcard, and one that begins with `0`
pub wildcard_front : (t : Text) → 1 ≤ length t → is_wildcard (get_or t 0 0 ∷ []) ≡ true → (x : Text)
    × (component t ≡ Some (x, take (length t - 1) (drop 1 t))) × ((is_wildcard x ≡ true) × (x ≡ get_or t 0 0 ∷ []))
wildcard_front t some e = (get_or t 0 0 ∷ [], ap component (first_apart t some) ∙ grind arith, (e, refl))

pub zero_front : (t : Text) → 1 ≤ length t → get_or t 0 0 ≡ 48
    → (x : Text) × (component t ≡ Some (x, take (length t - 1) (drop 1 t))) × (is_wildcard x ≡ false)
    × (fits_u64 (digits_value 10 x) ≡ true) × (0 ≡ digits_value 10 x)
zero_front t some e = (48 ∷ [], ap component (first_apart t some) ∙ rw e, refl, refl, refl)

-- a text that begins with another digit
digit_bounds : (b : ℕ) → is_ascii_digit b ≡ true → (48 ≤ b) × (b ≤ 57)
digit_bounds b e = grind arith

no_wildcard : (b : ℕ) (t : Text) → is_ascii_digit b ≡ true → is_wildcard (b ∷ t) ≡ false
no_wildcard b [] e = grind (arith, nat_tests)
no_wildcard b (c ∷ t) e = refl

digit_component : (b : ℕ) (t : Text) → is_ascii_digit b ≡ true → (b == 48) ≡ false
    → component (b ∷ t) ≡ Some (b ∷ front is_ascii_digit t, back is_ascii_digit t)
digit_component b t e other = grind (arith, nat_tests)

pub digits_front : (t rest : Text) (n : ℕ) (value : Option ℕ) → 1 ≤ length t → is_ascii_digit (get_or t 0 0) ≡ true
    → (get_or t 0 0 == 48) ≡ false → n ≡ get_or t 0 0 - 48
    → IsValue (digits_value 10 ((48 + n) ∷ front is_ascii_digit (take (length t - 1) (drop 1 t)))) value
    → rest ≡ back is_ascii_digit (take (length t - 1) (drop 1 t))
    → (x : Text) × (component t ≡ Some (x, rest)) × ((is_wildcard x ≡ false) × IsValue (digits_value 10 x) value)
digits_front t rest n value some e other first v is =
    let b : ℕ = get_or t 0 0 in
    let u : Text = take (length t - 1) (drop 1 t) in
    let same : 48 + n ≡ b = omega (arith, first, (digit_bounds b e).0) in (
      b ∷ front is_ascii_digit u,
      ap component (first_apart t some) ∙ digit_component b u e other ∙ rw is,
      (no_wildcard b (front is_ascii_digit u) e, rw same at v),
    )

-- the value after one more digit
pub value_more : (c : ℕ) (t : Text) (i : ℕ) (value : Option ℕ) → i < length t → is_ascii_digit (get_or t i 0) ≡ true
    → IsValue (digits_value 10 (c ∷ take i t) * 10 + (get_or t i 0 - 48)) value
    → IsValue (digits_value 10 (c ∷ take (i + 1) t)) value
value_more c t i value within e v =
    let digit : digit_value (get_or t i 0) ≡ get_or t i 0 - 48 = omega (arith, digit_value_digit (get_or t i 0) (digit_bounds _ e)) in
    rw (add-one, take-suc t i 0 within, digits_value_push 10 (c ∷ take i t) _, digit) v

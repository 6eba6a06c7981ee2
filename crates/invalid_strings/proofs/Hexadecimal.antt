-- A number in hexadecimal is that of its upper digits and its last digit.
use Rattle.std.proofs.Common.{◌≡◌, ℕ, zero, suc, ◌*◌, ◌/◌, ◌%◌, ◌^◌, ◌<◌, ◌≤◌, ◌==◌, true, ◌++◌, List, [], ◌∷◌, false}
use Rattle.std.proofs.Common.{refl, sym, ap, ◌∙◌, arith, append_assoc, if◌then◌else◌, eq-eqb, ne_eqb, inl, inr}
use Rattle.std.specs.Fmt.{digit_glyph, digits, digits_onto}
use Rattle.std.proofs.Math.Nat.{pow-suc}
use Rattle.std.proofs.lemmas.Bool.{cases_lt}

-- the last digit
abbrev last : ℕ → ℕ
last n = digit_glyph false (n % 16)

-- the test for the last digit
is_last : (n : ℕ) → n < 16 → (n / 16 == 0) ≡ true
is_last n small = eq-eqb (n / 16) 0 (omega arith)

is_not_last : (n : ℕ) → 16 ≤ n → (n / 16 == 0) ≡ false
is_not_last n more = ne_eqb (n / 16) 0 (λ e. omega arith)

one : (k n : ℕ) (acc : List ℕ) → n < 16 → digits_onto (suc k) 16 false n acc ≡ last n ∷ acc
one k n acc small = ap (λ b. if b then last n ∷ acc else digits_onto k 16 false (n / 16) (last n ∷ acc)) (is_last n small)

more : (k n : ℕ) (acc : List ℕ) → 16 ≤ n → digits_onto (suc k) 16 false n acc ≡ digits_onto k 16 false (n / 16) (last n ∷ acc)
more k n acc large = ap (λ b. if b then last n ∷ acc else digits_onto k 16 false (n / 16) (last n ∷ acc)) (is_not_last n large)

-- what is after the digits stays there
append : (k n : ℕ) (acc : List ℕ) → digits_onto k 16 false n acc ≡ digits_onto k 16 false n [] ++ acc
append zero n acc = refl
append (suc k) n acc = elim (cases_lt n 16) [
  | inl few ↦ one k n acc few ∙ ap (λ l. l ++ acc) (sym (one k n [] few))
  | inr large ↦
      more k n acc large
      ∙ append k (n / 16) (last n ∷ acc)
      ∙ sym (append_assoc (digits_onto k 16 false (n / 16) []) (last n ∷ []) acc)
      ∙ ap (λ l. l ++ acc) (sym (append k (n / 16) (last n ∷ [])) ∙ sym (more k n [] large))
]

-- once there are enough digits, one more changes nothing
enough : (k n : ℕ) (acc : List ℕ) → n < 16 ^ suc k
    → digits_onto (suc (suc k)) 16 false n acc ≡ digits_onto (suc k) 16 false n acc
enough zero n acc small =
    let few : n < 16 = rw pow-suc at small in
    one 1 n acc few ∙ sym (one 0 n acc few)
enough (suc k) n acc small = elim (cases_lt n 16) [
  | inl few ↦ one (suc (suc k)) n acc few ∙ sym (one (suc k) n acc few)
  | inr large ↦
      let below : n < 16 ^ suc k * 16 = rw pow-suc at small in
      more (suc (suc k)) n acc large ∙ enough k (n / 16) (last n ∷ acc) (omega arith) ∙ sym (more (suc k) n acc large)
]

pub hexadecimal_more : (n : ℕ) → 16 ≤ n → n < 2 ^ 32
    → digits 16 false n ≡ digits 16 false (n / 16) ++ last n ∷ []
unfolding digits
hexadecimal_more n large small =
    more 63 n [] large ∙ append 63 (n / 16) (last n ∷ [])
    ∙ ap (λ l. l ++ last n ∷ []) (sym (enough 62 (n / 16) [] (omega arith)))

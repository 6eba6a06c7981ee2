-- Numbers of any size: comparing their digits compares the numbers, and printing a number gives its
-- digits.
use Rattle.std.proofs.Common.{◌≡◌, ℕ, ◌+◌, ◌*◌, ◌^◌, ◌<◌, ◌≤◌, Bool, true, false, [], ◌∷◌, ◌++◌, length, map, arith, refl, sym, ap, ◌∙◌}
use Rattle.std.proofs.Common.{subst, append_assoc, append-nil, decimal}
use Rattle.std.specs.Prelude.{◌||◌, ◌==◌, not, nat_lt}
use Rattle.std.specs.Char.{digit_value}
use Rattle.std.specs.Cmp.{nat_cmp_is}
use Rattle.std.specs.Cmp.Lexicographic.{slice_cmp}
use Rattle.std.specs.Int.Digits.{digits_of}
use Rattle.std.specs.FinMap.{nat_cmp-IsAntisymmetric}
use Rattle.std.specs.Ordering.{is_ne, nat_cmp, ordering_then}
use Rattle.std.specs.Str.{all_ascii_digits}
use Rattle.std.specs.Str.Parse.{AllDigits, digits_value, digits_value_after}
use Rattle.std.specs.declared.cmp.Ordering.{Ordering}
use Rattle.std.specs.declared.cmp.Ordering.TheVariants.{Less, Equal, Greater}
use Rattle.std.proofs.Math.Nat.{mul-le-mul_right, pow-le-pow_right, pow-suc}
use Rattle.std.proofs.lemmas.Bool.{and_parts}
use Rattle.std.proofs.lemmas.Bool.Decides.{nat_tests}
use Rattle.std.proofs.lemmas.Cmp.{by_ranked, ranked}
use Rattle.std.proofs.lemmas.Fmt.{decimal_nonempty}
use Rattle.std.proofs.lemmas.Grind.{common_steps}
use Rattle.std.proofs.lemmas.Int.Digits.{digits_of_step, digits_value-lt}
use Rattle.std.proofs.lemmas.Nat.{div-mul-add, mod-mul-add}
use Rattle.std.proofs.lemmas.Str.{digit_value_digit}
use Rattle.std.proofs.lemmas.Str.Parse.{digit_from_value}
use Rattle.semver_texts.specs.PrintedText.{numeral}
use Rattle.semver_texts.specs.Texts.{Text, IsNumber, is_empty, is_large, is_number}
use Rattle.semver_texts.proofs.Lists.{by_test}
use Rattle.semver_texts.proofs.Numbers.{IsCanonical, IsNumber-from_canonical, canonical_from_IsNumber, decimal_canonical}
use Rattle.semver_texts.proofs.Numerals.{own}

-- ---- the value of digits

after_more : (n : ℕ) (ds : Text) → digits_value_after 10 n ds ≡ n * 10 ^ length ds + digits_value 10 ds
after_more n [] = omega arith
after_more n (c ∷ cs) =
    let more = pow-suc 10 (length cs) in
    omega (arith, after_more (n * 10 + digit_value c) cs, after_more (0 * 10 + digit_value c) cs, ap (λ x. n * x) more)

first_weighs : (c : ℕ) (cs : Text) → digits_value 10 (c ∷ cs) ≡ digit_value c * 10 ^ length cs + digits_value 10 cs
first_weighs c cs = omega (arith, after_more (0 * 10 + digit_value c) cs)

of_digit : (c : ℕ) → digit_value c < 10 → digit_value c + 48 ≡ c
of_digit c small = digit_value_digit c (digit_from_value c small)

-- ---- the order of two numbers

moved : (x y a b : ℕ) → (x < y → a < b) → (x ≡ y → a ≡ b) → (y < x → b < a) → nat_cmp x y ≡ nat_cmp a b
moved x y a b less same more =
    by_ranked (x < y) (x ≡ y) (y < x) (nat_cmp x y) (ranked x y (nat_cmp x y) refl) (λ is h. is ∙ nat_cmp_is a b Less (less h))
    (λ is h. is ∙ nat_cmp_is a b Equal (same h)) (λ is h. is ∙ nat_cmp_is a b Greater (more h))

-- of two numbers with equally many digits, the one with the lower first digit is lower
first_decides : (c e : ℕ) (cs es : Text) → digit_value c < 10 → digit_value e < 10 → AllDigits 10 cs → AllDigits 10 es
    → length cs ≡ length es → c < e → digits_value 10 (c ∷ cs) < digits_value 10 (e ∷ es)
first_decides c e cs es small also all others same less =
    let above : digit_value c + 1 ≤ digit_value e = omega (arith, of_digit c small, of_digit e also) in
    omega (
      arith,
      first_weighs c cs,
      first_weighs e es,
      digits_value-lt 10 cs all,
      mul-le-mul_right (10 ^ length cs) above,
      ap (λ k. digit_value e * 10 ^ k) same,
    )

as_many : (s t : Text) → AllDigits 10 s → AllDigits 10 t → length s ≡ length t
    → slice_cmp nat_cmp s t ≡ nat_cmp (digits_value 10 s) (digits_value 10 t)
as_many [] [] all others same = refl
as_many [] (e ∷ es) all others same = absurd (omega (arith, same))
as_many (c ∷ cs) [] all others same = absurd (omega (arith, same))
as_many (c ∷ cs) (e ∷ es) all others same =
    let rest : length cs ≡ length es = omega (arith, same) in
    let v : ℕ = digits_value 10 (c ∷ cs) in
    let w : ℕ = digits_value 10 (e ∷ es) in
    let then = λ (r : Ordering). ordering_then r (slice_cmp nat_cmp cs es) in
    by_ranked (c < e) (c ≡ e) (e < c) (nat_cmp c e) (ranked c e (nat_cmp c e) refl)
    (λ is h. ap then is ∙ nat_cmp_is v w Less (first_decides c e cs es all.0 others.0 all.1 others.1 rest h))
    (λ is h. ap then is ∙ as_many cs es all.1 others.1 rest ∙ after_same c e cs es h rest)
    (λ is h. ap then is ∙ nat_cmp_is v w Greater (first_decides e c es cs others.0 all.0 others.1 all.1 (sym rest) h))
  where
    after_same : (c e : ℕ) (cs es : Text) → c ≡ e → length cs ≡ length es
        → nat_cmp (digits_value 10 cs) (digits_value 10 es) ≡ nat_cmp (digits_value 10 (c ∷ cs)) (digits_value 10 (e ∷ es))
    after_same c e cs es is rest =
        let front : digit_value c * 10 ^ length cs ≡ digit_value e * 10 ^ length es = λ i. digit_value (is i) * 10 ^ rest i in
        let v : ℕ = digits_value 10 (c ∷ cs) in
        let w : ℕ = digits_value 10 (e ∷ es) in
        moved (digits_value 10 cs) (digits_value 10 es) v w (λ h. omega (arith, h, front, first_weighs c cs, first_weighs e es))
        (λ h. omega (arith, h, front, first_weighs c cs, first_weighs e es))
        (λ h. omega (arith, h, front, first_weighs c cs, first_weighs e es))

-- the digits of a number of 2^64 or more; the first one isn't 0
pub record IsLargeText (t : Text) : Type 0 where
  pub first : ℕ
  pub rest : Text
  pub digits : AllDigits 10 (first ∷ rest)
  pub some : 1 ≤ digit_value first
  pub whole : t ≡ first ∷ rest
  pub large : 2 ^ 64 ≤ digits_value 10 t

large_text : (t : Text) → is_large t ≡ true → IsLargeText t
large_text [] e = cc
large_text (c ∷ cs) e =
    let both = and_parts (is_number (c ∷ cs)) _ e in
    let parts = and_parts (all_ascii_digits (c ∷ cs)) _ both.0 in
    let digits = own.to (c ∷ cs) parts.0 in
    let large : 2 ^ 64 ≤ digits_value 10 (c ∷ cs) = let h = both.1 in grind (arith, nat_tests, common_steps) in
    record {
      first = c;
      rest = cs;
      digits = digits;
      some = no_zero c cs digits parts.1 large;
      whole = refl;
      large = large;
    }
  where
    no_zero : (c : ℕ) (cs : Text) → AllDigits 10 (c ∷ cs) → (is_empty cs || not (c == 48)) ≡ true
        → 2 ^ 64 ≤ digits_value 10 (c ∷ cs) → 1 ≤ digit_value c
    no_zero c [] digits is large = omega (arith, large, first_weighs c [])
    no_zero c (d ∷ cs) digits is large = let at = of_digit c digits.0 in grind (arith, nat_tests)

-- of two such numbers, the one with fewer digits is lower
more_digits : (s t : Text) → IsLargeText s → IsLargeText t → length s < length t → digits_value 10 s < digits_value 10 t
more_digits s t a b less =
    let below : digits_value 10 s < 10 ^ length s = rw a.whole (digits_value-lt 10 (a.first ∷ a.rest) a.digits) in
    let longer : length s ≤ length b.rest = omega (arith, ap length b.whole) in
    let weighs = ap (digits_value 10) b.whole ∙ first_weighs b.first b.rest in
    omega (arith, below, weighs, pow-le-pow_right {n = 10} (omega arith) longer, mul-le-mul_right (10 ^ length b.rest) b.some)

module _ (s t : Text) (a : is_large s ≡ true) (b : is_large t ≡ true) where
  pub by_length : (length s ≡ length t → ⊥) → nat_cmp (length s) (length t) ≡ nat_cmp (digits_value 10 s) (digits_value 10 t)
  by_length other =
      let left = large_text s a in
      let right = large_text t b in
      moved _ _ _ _ (more_digits s t left right) (λ h. absurd (other h)) (more_digits t s right left)

  pub by_bytes : length s ≡ length t → slice_cmp nat_cmp s t ≡ nat_cmp (digits_value 10 s) (digits_value 10 t)
  by_bytes same =
      let left = large_text s a in
      let right = large_text t b in
      as_many s t (subst (AllDigits 10) (sym left.whole) left.digits) (subst (AllDigits 10) (sym right.whole) right.digits) same

  -- the order of the lengths is the order of the numbers if it isn't `Equal`; otherwise the order
  -- of the bytes is
  pub lengths_decide : (r : Ordering) → r ≡ nat_cmp (length s) (length t) → is_ne r ≡ true
      → r ≡ nat_cmp (digits_value 10 s) (digits_value 10 t)
  lengths_decide r is other = is ∙ by_length (λ same. never (ap is_ne (is ∙ tied same)) other)
    where
      tied : length s ≡ length t → nat_cmp (length s) (length t) ≡ Equal
      tied same = sym (nat_cmp_is (length s) (length t) Equal same)

      never : {b : Bool} → b ≡ false → b ≡ true → ⊥
      never f t = cc

  pub bytes_decide : (r q : Ordering) → r ≡ nat_cmp (length s) (length t) → is_ne r ≡ false → q ≡ slice_cmp nat_cmp s t
      → q ≡ nat_cmp (digits_value 10 s) (digits_value 10 t)
  bytes_decide r q is none of_bytes = of_bytes ∙ by_bytes (nat_cmp-IsAntisymmetric (length s) (length t) (sym is ∙ equal r none))
    where
      equal : (r : Ordering) → is_ne r ≡ false → r ≡ Equal
      equal Less e = cc
      equal Equal e = refl
      equal Greater e = cc

pub large_size : (t : Text) → is_large t ≡ true → 2 ^ 64 ≤ digits_value 10 t
large_size t e = (large_text t e).large

-- ---- the decimal of a number

last : (n d : ℕ) → 0 < n * 10 + d → d < 10 → digits_of 10 (n * 10 + d) ≡ digits_of 10 n ++ (d ∷ [])
last n d some small =
    digits_of_step 10 (n * 10 + d) (omega arith) some
    ∙ (λ i. digits_of 10 (div-mul-add n 10 d small i) ++ (mod-mul-add n 10 d small i ∷ []))

digits_after : (n : ℕ) (ds : Text) → 0 < n → AllDigits 10 ds
    → digits_of 10 (digits_value_after 10 n ds) ≡ digits_of 10 n ++ map digit_value ds
digits_after n [] some all = sym (append-nil (digits_of 10 n))
digits_after n (c ∷ cs) some all =
    digits_after (n * 10 + digit_value c) cs (omega arith) all.1
    ∙ ap (λ ds. ds ++ map digit_value cs) (last n (digit_value c) (omega arith) all.0)
    ∙ append_assoc (digits_of 10 n) (digit_value c ∷ []) (map digit_value cs)

glyphs : (ds : Text) → AllDigits 10 ds → map (λ d. 48 + d) (map digit_value ds) ≡ ds
glyphs [] all = refl
glyphs (c ∷ cs) all = λ i. glyph c all.0 i ∷ glyphs cs all.1 i
  where
    glyph : (c : ℕ) → digit_value c < 10 → 48 + digit_value c ≡ c
    glyph c small = omega (arith, of_digit c small)

large_numeral : (t : Text) → is_large t ≡ true → t ≡ numeral (digits_value 10 t)
large_numeral t e =
    let w = large_text t e in
    let c : ℕ = w.first in
    let digits : digits_of 10 (digits_value 10 (c ∷ w.rest)) ≡ map digit_value (c ∷ w.rest) =
    digits_after (0 * 10 + digit_value c) w.rest (omega (arith, w.some)) w.digits.1
    ∙ ap (λ ds. ds ++ map digit_value w.rest) (last 0 (digit_value c) (omega (arith, w.some)) w.digits.0) in
    let other : nat_lt (digits_value 10 t) (2 ^ 64) ≡ false = let h = w.large in grind (arith, nat_tests) in
    w.whole ∙ sym (glyphs (c ∷ w.rest) w.digits) ∙ ap (map (λ d. 48 + d)) (sym digits ∙ ap (λ x. digits_of 10 (digits_value 10 x)) (sym
    w.whole))
    ∙ rw other refl

pub canonical : (t : Text) → is_number t ≡ true → digits_value 10 t < 2 ^ 64 → IsCanonical t
canonical [] e small = cc
canonical (b ∷ t) e small = record {
  digits = (and_parts _ _ e).0;
  no_leading_zero = λ z. grind (arith, nat_tests, common_steps);
  small = small;
}

pub number_some : (t : Text) → is_number t ≡ true → 0 < length t
number_some [] e = cc
number_some (b ∷ t) e = omega arith

-- a text that is a number is the decimal of its value
pub number_numeral : (t : Text) → is_number t ≡ true → t ≡ numeral (digits_value 10 t)
number_numeral t e =
    by_test (nat_lt (digits_value 10 t) (2 ^ 64))
    (λ small. rw small (sym (decimal_canonical t (number_some t e)
    (canonical t e (grind (arith, nat_tests, common_steps))))))
    (λ large. large_numeral t (rw (e, large) refl))

-- below 2^64, `numeral` is `decimal`
pub small_numeral : (n : ℕ) → n < 2 ^ 64 → numeral n ≡ decimal n
small_numeral n small = rw (below n small) refl
  where
    below : (n : ℕ) → n < 2 ^ 64 → nat_lt n (2 ^ 64) ≡ true
    below n small = grind (arith, nat_tests)

-- a text that is canonical and not empty is a number, and so is the decimal of a number below 2^64
pub number_is : (t : Text) → IsCanonical t → 0 < length t → is_number t ≡ true
number_is [] c some = absurd (omega (arith, some))
number_is (b ∷ []) c some = let d = c.digits in grind (arith, nat_tests, common_steps)
number_is (b ∷ next ∷ t) c some =
    let d = c.digits in let z = c.no_leading_zero in grind (arith, nat_tests, common_steps)

pub is_number_of : (t : Text) → IsNumber t → is_number t ≡ true
is_number_of t number =
    number_is t (canonical_from_IsNumber t number) (subst (λ l. 0 < length l) (sym number.2) (decimal_nonempty number.0 number.1))

pub no_number : (t : Text) → is_large t ≡ false → ¬ (IsNumber t) → is_number t ≡ false
no_number t small none =
    by_test (is_number t)
    (λ e. absurd (none (IsNumber-from_canonical t (number_some t e)
    (canonical t e (let h = rw e at small in grind (arith, nat_tests, common_steps))))))
    (λ e. e)

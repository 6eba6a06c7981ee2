-- Numbers below 2^64: the texts that spell them, and how they are read from the beginning of a
-- text.
use Rattle.std.proofs.Common.{◌≡◌, ℕ, ◌^◌, ◌<◌, ◌≢◌, true, false, eqb, List, [], ◌∷◌, ◌++◌, length, take, drop, map, get_or}
use Rattle.std.proofs.Common.{sym, refl, ap, ◌∙◌, subst, ⊎_elim}
use Rattle.std.proofs.Common.{arith, decimal, ◌⊎◌, ◌+◌, ◌-◌, ◌*◌, ◌≤◌, one-add, append_assoc, append-nil, length-drop}
use Rattle.std.proofs.Math.Seq.{take-length}
use Rattle.std.specs.Char.{is_ascii_digit, digit_value}
use Rattle.std.specs.Str.{all_ascii_digits}
use Rattle.std.specs.Prelude.{◌&&◌, nat_lt, slice_index}
use Rattle.std.specs.List.{prefix_len, join_with_byte}
use Rattle.std.specs.Str.Parse.{digits_value}
use Rattle.std.proofs.lemmas.Fmt.{digits_decimal, digits_value-decimal, decimal-digits_value, decimal_digit, decimal_nonempty}
use Rattle.std.proofs.lemmas.Fmt.{first_decimal, decimal_injective}
use Rattle.std.proofs.lemmas.Str.{digit_value_digit}
use Rattle.std.proofs.lemmas.Str.Parse.{digits_value-take-le}
use Rattle.std.proofs.lemmas.Int.Digits.{digits_value_more}
use Rattle.std.proofs.lemmas.List.Sums.{prefix_len-drop_yes}
use Rattle.std.proofs.lemmas.List.{take_at, drop_at, take-append-drop, take-take}
use Rattle.std.proofs.lemmas.List.Folds.{length-prefix_len}
use Rattle.std.proofs.lemmas.Bool.{and_parts}
use Rattle.std.proofs.lemmas.Bool.Decides.{nat_tests}
use Rattle.std.proofs.lemmas.Grind.{common_steps}
use Rattle.semver_texts.proofs.Numerals.{own}
use Rattle.semver_texts.specs.Texts.{IsNumber, BeginsWithNumber, BeginsWithNumbers}
use Rattle.semver_texts.proofs.Lists.{tails, Passes, by_test, all_of_prefix, prefix_stops, prefix_is}
use Rattle.semver_texts.specs.Steps.Decimals.{is_number, digits_front}

-- the run, perhaps empty, consists of digits, has no leading zero, and its value is below 2^64
pub record IsCanonical (run : List ℕ) : Type 0 where
  pub digits : all_ascii_digits run ≡ true
  pub no_leading_zero : get_or run 0 0 ≡ 48 → length run ≡ 1
  pub small : digits_value 10 run < 2 ^ 64

pub is_number_true : (run : List ℕ) → IsCanonical run → is_number run ≡ true
is_number_true run c = let d = c.digits in let z = c.no_leading_zero in let s = c.small in grind (arith, common_steps)

pub canonical_from_is_number : (run : List ℕ) → is_number run ≡ true → IsCanonical run
canonical_from_is_number run e =
    record { digits = grind (arith, common_steps); no_leading_zero = λ z. grind (arith, common_steps); small = grind (arith, common_steps) }

pub decimal_canonical : (run : List ℕ) → 0 < length run → IsCanonical run → decimal (digits_value 10 run) ≡ run
decimal_canonical run some c = decimal-digits_value own run c.digits some c.no_leading_zero c.small

-- a canonical run that isn't empty is the decimal of a number below 2^64
pub IsNumber-from_canonical : (run : List ℕ) → 0 < length run → IsCanonical run → IsNumber run
IsNumber-from_canonical run some c = (digits_value 10 run, c.small, sym (decimal_canonical run some c))

pub canonical_decimal : (n : ℕ) → n < 2 ^ 64 → IsCanonical (decimal n)
canonical_decimal n small = record {
  digits = digits_decimal own n small;
  no_leading_zero =
      λ z. ⊎_elim (λ positive. absurd (omega (arith, first_decimal n positive small)))
      (λ zero. ap (λ k. length (decimal k)) zero ∙ ap length (decimal_digit 0 (omega arith))) (positive_or_zero n);
  small = subst (λ k. k < 2 ^ 64) (sym (digits_value-decimal own n small)) small;
}
  where
    positive_or_zero : (n : ℕ) → (0 < n) ⊎ (n ≡ 0)
    positive_or_zero n = grind arith

-- the value of the digits of a number's decimal is the number
pub digits_value_number : (run : List ℕ) (n : ℕ) → n < 2 ^ 64 → run ≡ decimal n → digits_value 10 run ≡ n
digits_value_number run n small e = ap (digits_value 10) e ∙ digits_value-decimal own n small

pub canonical_from_IsNumber : (run : List ℕ) → IsNumber run → IsCanonical run
canonical_from_IsNumber run number = subst IsCanonical (sym number.2) (canonical_decimal number.0 number.1)

-- ---- a number at the beginning of a text

digits_all : (ds : List ℕ) → Passes is_ascii_digit ds → all_ascii_digits ds ≡ true
digits_all [] all = refl
digits_all (d ∷ ds) all = rw (all.0, digits_all ds all.1) refl

pub all_digits : (ds : List ℕ) → all_ascii_digits ds ≡ true → Passes is_ascii_digit ds
all_digits [] all = tt
all_digits (d ∷ ds) all = let parts = and_parts (is_ascii_digit d) (all_ascii_digits ds) all in (parts.0, all_digits ds parts.1)

-- if a text begins with a number, the digits at its beginning are the number's decimal, and the
-- rest is what follows them
front_is : (text : List ℕ) (n : ℕ) (rest : List ℕ) → BeginsWithNumber text n rest
    → (digits_front text ≡ decimal n) × (rest ≡ drop (length (digits_front text)) text)
front_is text n rest w =
    let len : prefix_len is_ascii_digit text ≡ length (decimal n) =
    ap (prefix_len is_ascii_digit) w.split
    ∙ prefix_is is_ascii_digit (decimal n) rest (all_digits (decimal n) (canonical_decimal n w.fits).digits) refl w.ended in
    let front : digits_front text ≡ decimal n =
    (λ i. take (len i) (w.split i)) ∙ take_at (decimal n) rest (length (decimal n)) refl in (
      front,
      sym ((λ i. drop (length (front i)) (w.split i)) ∙ drop_at (decimal n) rest (length (decimal n)) refl),
    )

front_canonical : (text : List ℕ) (n : ℕ) (rest : List ℕ) → BeginsWithNumber text n rest
    → (0 < length (digits_front text)) × IsCanonical (digits_front text)
front_canonical text n rest w =
    let front = (front_is text n rest w).0 in (
      subst (λ l. 0 < length l) (sym front) (decimal_nonempty n w.fits),
      subst IsCanonical (sym front) (canonical_decimal n w.fits),
    )

-- if the digits at the beginning of a text are canonical, the text begins with their number
front_begins : (text : List ℕ) → 0 < length (digits_front text) → (get_or (digits_front text) 0 0 ≡ 48 → length (digits_front text) ≡ 1)
    → digits_value 10 (digits_front text) < 2 ^ 64
    → BeginsWithNumber text (digits_value 10 (digits_front text)) (drop (length (digits_front text)) text)
front_begins text some no_zero small = record {
  fits = small;
  split = sym (ap (λ l. l ++ drop (length (digits_front text)) text)
      (decimal_canonical (digits_front text) some
      (record { digits = digits_all _ (all_of_prefix is_ascii_digit text); no_leading_zero = no_zero; small = small }))
      ∙ ap (λ k. digits_front text ++ drop k text) (length-prefix_len is_ascii_digit text)
      ∙ take-append-drop (prefix_len is_ascii_digit text) text);
  ended = ap (λ k. is_ascii_digit (slice_index (drop k text) 0)) (length-prefix_len is_ascii_digit text)
      ∙ prefix_stops is_ascii_digit text refl;
}

first_of_front : (text : List ℕ) → 0 < length (digits_front text) → get_or (digits_front text) 0 0 ≡ get_or text 0 0
first_of_front [] some = refl
first_of_front (b ∷ text) some =
    by_test (is_ascii_digit b) (λ h. rw (h, one-add) refl) (λ h. absurd (omega (arith, rw h at some)))

-- a slice from `len` to the end of a text is the text without its first `len` bytes
after : (text rest : List ℕ) (len : ℕ) → rest ≡ take (length text - len) (drop len text) → rest ≡ drop len text
after text rest len is = is ∙ ap (λ k. take k (drop len text)) (sym (length-drop len text)) ∙ take-length (drop len text)

digit_some : (text : List ℕ) → is_ascii_digit (slice_index text 0) ≡ true → 0 < length text
digit_some [] digit = cc
digit_some (b ∷ text) digit = omega arith

front_some : (text : List ℕ) → is_ascii_digit (slice_index text 0) ≡ true → 0 < length (digits_front text)
front_some [] digit = cc
front_some (b ∷ text) digit = omega (arith, length-prefix_len is_ascii_digit (b ∷ text), more)
  where
    more : prefix_len is_ascii_digit (b ∷ text) ≡ 1 + prefix_len is_ascii_digit text
    more = rw digit refl

-- if the first digit isn't 0 and the value of the digits fits, the text begins with the number that
-- was read
pub number_read : (text rest : List ℕ) (n len : ℕ) → is_ascii_digit (slice_index text 0) ≡ true → slice_index text 0 ≢ 48 → n < 2 ^ 64
    → n ≡ digits_value 10 (digits_front text) → len ≡ length (digits_front text) → rest ≡ take (length text - len) (drop len text)
    → BeginsWithNumber text n rest
number_read text rest n len digit no_zero small is count left =
    let filled = front_some text digit in
    subst (λ l. BeginsWithNumber text n l) (sym (after text rest len left ∙ ap (λ k. drop k text) count))
    (subst (λ m. BeginsWithNumber text m (drop (length (digits_front text)) text)) (sym is)
    (front_begins text filled (λ z. absurd (no_zero (sym (first_of_front text filled) ∙ z))) (subst (λ m. m < 2 ^ 64) is small)))

-- if the value of the digits is 2^64 or more, the text doesn't begin with a number
pub too_large : (text : List ℕ) → 2 ^ 64 ≤ digits_value 10 (digits_front text) → (n : ℕ) (rest : List ℕ) → ¬ (BeginsWithNumber text n rest)
too_large text large n rest w = absurd (omega (arith, large, (front_canonical text n rest w).1.small))

-- a text doesn't begin with a number if its first byte isn't a digit, or if it is 0 and a digit
-- follows; a digit that isn't followed by another is a number
pub no_digit : (text : List ℕ) → is_ascii_digit (slice_index text 0) ≡ false → (n : ℕ) (rest : List ℕ)
    → ¬ (BeginsWithNumber text n rest)
no_digit [] other n rest w = absurd (omega (arith, (front_canonical [] n rest w).0))
no_digit (b ∷ text) other n rest w =
    absurd (omega (arith, (front_canonical (b ∷ text) n rest w).0, length-prefix_len is_ascii_digit (b ∷ text), ended))
  where
    ended : prefix_len is_ascii_digit (b ∷ text) ≡ 0
    ended = rw other refl

pub leading_zero : (text rest : List ℕ) → rest ≡ take (length text - 1) (drop 1 text) → slice_index text 0 ≡ 48
    → is_ascii_digit (slice_index rest 0) ≡ true → (n : ℕ) (more : List ℕ) → ¬ (BeginsWithNumber text n more)
leading_zero [] rest is zero digit n more w = absurd (omega (arith, zero))
leading_zero (b ∷ []) rest is zero digit n more w =
    let e : false ≡ true = sym (ap (λ t. is_ascii_digit (slice_index t 0)) (after (b ∷ []) rest 1 is)) ∙ digit in cc
leading_zero (b ∷ c ∷ text) rest is zero digit n more w =
    let canonical = front_canonical (b ∷ c ∷ text) n more w in
    absurd (omega (
      arith,
      canonical.1.no_leading_zero (first_of_front (b ∷ c ∷ text) canonical.0 ∙ zero),
      length-prefix_len is_ascii_digit (b ∷ c ∷ text),
      two,
    ))
  where
    second : is_ascii_digit c ≡ true
    second = sym (ap (λ t. is_ascii_digit (slice_index t 0)) (after (b ∷ c ∷ text) rest 1 is)) ∙ digit

    two : prefix_len is_ascii_digit (b ∷ c ∷ text) ≡ 1 + (1 + prefix_len is_ascii_digit text)
    two = rw (zero, second) refl

pub one_digit : (text rest : List ℕ) → rest ≡ take (length text - 1) (drop 1 text) → is_ascii_digit (slice_index text 0) ≡ true
    → is_ascii_digit (slice_index rest 0) ≡ false → (n : ℕ) → n ≡ slice_index text 0 - 48 → BeginsWithNumber text n rest
one_digit [] rest is digit other n same_n = absurd (omega (arith, digit_some [] digit))
one_digit (b ∷ text) rest is digit other n same_n =
    let range : (48 ≤ b) × (b ≤ 57) = grind arith in
    let same : 48 + (b - 48) ≡ b = omega (arith, range.0) in
    let alone : decimal (b - 48) ≡ b ∷ [] =
    decimal_digit (b - 48) (omega (arith, range.1)) ∙ ap (λ x. x ∷ []) same in
    record {
      fits = omega (arith, range.1, same_n);
      split = (λ i. sym (ap decimal same_n ∙ alone) i ++ sym (after (b ∷ text) rest 1 is) i);
      ended = other;
    }

-- a text begins with at most one number
pub same_number : (text : List ℕ) (n m : ℕ) (rest more : List ℕ) → BeginsWithNumber text n rest → BeginsWithNumber text m more
    → (n ≡ m) × (rest ≡ more)
same_number text n m rest more a b =
    let front = front_is text n rest a in
    let again = front_is text m more b in
    (decimal_injective n m a.fits b.fits (sym front.0 ∙ again.0), front.1 ∙ sym again.1)

-- a text that is a number begins with that number
begins_whole : (text : List ℕ) → (number : IsNumber text) → BeginsWithNumber text number.0 []
begins_whole text number = record { fits = number.1; split = number.2 ∙ sym (append-nil (decimal number.0)); ended = refl }

pub none_whole : (text : List ℕ) → ((n : ℕ) (rest : List ℕ) → ¬ (BeginsWithNumber text n rest)) → ¬ (IsNumber text)
none_whole text none number = none number.0 [] (begins_whole text number)

pub more_after : (text rest : List ℕ) (n : ℕ) → BeginsWithNumber text n rest → eqb (length rest) 0 ≡ false → ¬ (IsNumber text)
more_after text [] n begins some number = cc
more_after text (b ∷ rest) n begins some number =
    absurd (omega (arith, ap length (same_number text number.0 n [] (b ∷ rest) (begins_whole text number) begins).1))

-- ---- three numbers joined by dots

-- each of the three numbers, at the beginning of the text after the one before it and a dot
record AreThree (text : List ℕ) (major minor patch : ℕ) (rest : List ℕ) : Type 0 where
  second : List ℕ
  third : List ℕ
  first_is : BeginsWithNumber text major (46 ∷ second)
  second_is : BeginsWithNumber second minor (46 ∷ third)
  third_is : BeginsWithNumber third patch rest

three_apart : (text : List ℕ) (major minor patch : ℕ) (rest : List ℕ) → BeginsWithNumbers text major minor patch rest
    → AreThree text major minor patch rest
three_apart text major minor patch rest w = record {
  second = decimal minor ++ (46 ∷ (decimal patch ++ rest));
  third = decimal patch ++ rest;
  first_is = record { fits = w.major_fits; split = w.split ∙ grouped; ended = refl };
  second_is = record { fits = w.minor_fits; split = refl; ended = refl };
  third_is = record { fits = w.patch_fits; split = refl; ended = w.ended };
}
  where
    grouped : join_with_byte 46 (map decimal (major ∷ minor ∷ patch ∷ [])) ++ rest
        ≡ decimal major ++ (46 ∷ (decimal minor ++ (46 ∷ (decimal patch ++ rest))))
    grouped = simp append_assoc

-- the text doesn't begin with a dot and a number
abbrev pub NoneAfterDot : List ℕ → Type 0
NoneAfterDot text = (n : ℕ) (after more : List ℕ) → text ≡ 46 ∷ after → ¬ (BeginsWithNumber after n more)

abbrev pub NotThree : List ℕ → Type 0
NotThree text = (major minor patch : ℕ) (rest : List ℕ) → ¬ (BeginsWithNumbers text major minor patch rest)

pub no_first : (text : List ℕ) → is_ascii_digit (slice_index text 0) ≡ false → NotThree text
no_first text other major minor patch more w =
    let a = three_apart text major minor patch more w in no_digit text other major (46 ∷ a.second) a.first_is

pub no_second : (text rest : List ℕ) (n : ℕ) → BeginsWithNumber text n rest → NoneAfterDot rest → NotThree text
no_second text rest n first none major minor patch more w =
    let a = three_apart text major minor patch more w in
    none minor a.second (46 ∷ a.third) (sym (same_number text major n _ rest a.first_is first).1) a.second_is

pub no_third : (text second rest : List ℕ) (n m : ℕ) → BeginsWithNumber text n (46 ∷ second) → BeginsWithNumber second m rest
    → NoneAfterDot rest → NotThree text
no_third text second rest n m first next none major minor patch more w =
    let a = three_apart text major minor patch more w in
    let same : a.second ≡ second = tails (same_number text major n _ _ a.first_is first).1 in
    none patch a.third more
    (sym (same_number second minor m _ rest (subst (λ l. BeginsWithNumber l minor (46 ∷ a.third)) same a.second_is) next).1)
    a.third_is

-- a text begins with three numbers in at most one way
pub same_numbers : (text : List ℕ) (major minor patch major' minor' patch' : ℕ) (rest more : List ℕ)
    → BeginsWithNumbers text major minor patch rest → BeginsWithNumbers text major' minor' patch' more
    → (major ≡ major') × (minor ≡ minor') × (patch ≡ patch') × (rest ≡ more)
same_numbers text major minor patch major' minor' patch' rest more v w =
    let a = three_apart text major minor patch rest v in
    let b = three_apart text major' minor' patch' more w in
    let first = same_number text major major' _ _ a.first_is b.first_is in
    let second = same_number b.second minor minor' _ _
    (subst (λ l. BeginsWithNumber l minor (46 ∷ a.third)) (tails first.1) a.second_is) b.second_is in
    let third = same_number b.third patch patch' rest more
    (subst (λ l. BeginsWithNumber l patch rest) (tails second.1) a.third_is) b.third_is in
    (first.0, second.0, third.0, third.1)

-- ---- reading digit by digit

-- every byte before the offset is a digit, and the digits at the beginning of the text go on from
-- there
abbrev pub GoesOn : List ℕ → ℕ → Type 0
GoesOn text at = prefix_len is_ascii_digit text ≡ at + prefix_len is_ascii_digit (drop at text)

-- if no digit is at the offset, all digits at the beginning of the text have been read
pub front_read : (text : List ℕ) (at n : ℕ) → at ≤ length text → prefix_len is_ascii_digit (drop at text) ≡ 0
    → n ≡ digits_value 10 (take at text) → GoesOn text at
    → (n ≡ digits_value 10 (digits_front text)) × (at ≡ length (digits_front text))
front_read text at n within none is on =
    let all : prefix_len is_ascii_digit text ≡ at = omega (arith, on, none) in (
      is ∙ ap (λ k. digits_value 10 (take k text)) (sym all),
      sym (length-prefix_len is_ascii_digit text ∙ all),
    )

-- the value after one more digit
pub value_more : (text : List ℕ) (at n : ℕ) → at < length text → is_ascii_digit (get_or text at 0) ≡ true
    → n ≡ digits_value 10 (take at text) → n * 10 + (get_or text at 0 - 48) ≡ digits_value 10 (take (at + 1) text)
value_more text at n within digit is =
    let range : (48 ≤ get_or text at 0) × (get_or text at 0 ≤ 57) = grind arith in
    let value : digit_value (get_or text at 0) ≡ get_or text at 0 - 48 = omega (arith, digit_value_digit (get_or text at 0) range) in
    (λ i. is i * 10 + sym value i) ∙ sym (digits_value_more 10 text at within)

pub goes_on : (text : List ℕ) (at : ℕ) → at < length text → is_ascii_digit (get_or text at 0) ≡ true → GoesOn text at
    → GoesOn text (at + 1)
goes_on text at within digit on = omega (arith, on, prefix_len-drop_yes is_ascii_digit text at 0 within digit)

-- the value of the digits before the offset is at most that of all digits at the beginning
pub value_before : (text : List ℕ) (at : ℕ) → GoesOn text at → digits_value 10 (take at text) ≤ digits_value 10 (digits_front text)
value_before text at on =
    subst (λ l. digits_value 10 l ≤ digits_value 10 (digits_front text))
    (take-take at (prefix_len is_ascii_digit text) text (omega (arith, on)))
    (digits_value-take-le 10 (digits_front text) at (omega arith))

-- ---- parts that consist of digits

front_all : (part : List ℕ) → all_ascii_digits part ≡ true → digits_front part ≡ part
front_all [] all = refl
front_all (b ∷ part) all = let parts = and_parts (is_ascii_digit b) _ all in rw (parts.0, one-add, front_all part parts.1) refl

pub all_read : (part : List ℕ) (n : ℕ) → length part ≡ length (digits_front part) → n < 2 ^ 64 → n ≡ digits_value 10 (digits_front part)
    → ((all_ascii_digits part && nat_lt (digits_value 10 part) (2 ^ 64)) ≡ true) × (n ≡ digits_value 10 part)
all_read part n count small is =
    let whole : digits_front part ≡ part =
    ap (λ k. take k part) (sym (count ∙ length-prefix_len is_ascii_digit part)) ∙ take-length part in
    let all = subst (λ t. all_ascii_digits t ≡ true) whole (digits_all _ (all_of_prefix is_ascii_digit part)) in
    let value : n ≡ digits_value 10 part = is ∙ ap (digits_value 10) whole in
    (rw all (subst (λ k. nat_lt k (2 ^ 64) ≡ true) value (grind (arith, nat_tests))), value)

-- a part isn't the digits of a number below 2^64 if it contains another byte, or its value is 2^64
-- or more
pub none_of_digits : (part : List ℕ) → (digits_front part ≡ part → nat_lt (digits_value 10 part) (2 ^ 64) ≡ false)
    → (all_ascii_digits part && nat_lt (digits_value 10 part) (2 ^ 64)) ≡ false
none_of_digits part not_small =
    by_test (all_ascii_digits part) (λ all. rw all (not_small (front_all part all))) (λ other. rw other refl)

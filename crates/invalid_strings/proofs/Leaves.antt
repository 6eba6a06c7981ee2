-- How the prefixes of numbers, of identifiers and of white space are completed.
use Rattle.std.proofs.Common.{◌≡◌, ℕ, ◌<◌, ◌≤◌, ◌^◌, ◌⊎◌, inl}
use Rattle.std.proofs.Common.{inr, Bool, true, false, List, [], ◌∷◌, ◌++◌, codes, length, decimal, map}
use Rattle.std.proofs.Common.{refl, sym, ◌∙◌, subst, arith, append-nil, length-append}
use Rattle.std.specs.Int.{is_in_range}
use Rattle.std.specs.Prelude.{IsTrue, ◌==◌, ◌&&◌, ◌||◌}
use Rattle.std.specs.Char.{is_ascii_alphanumeric, is_ascii_digit}
use Rattle.std.specs.List.{AllByRecursion, join_with_byte, list_all}
use Rattle.std.specs.Str.{IsUtf8, all_ascii_digits, chars, is_utf8}
use Rattle.std.specs.Str.Parse.{digits_value}
use Rattle.std.proofs.Math.Seq.{take-append_seam}
use Rattle.std.proofs.lemmas.Bool.{and_parts, eqb-true}
use Rattle.std.proofs.lemmas.Bool.Decides.{nat_tests}
use Rattle.std.proofs.lemmas.Fmt.{decimal_digit, decimal_nonempty}
use Rattle.std.proofs.lemmas.List.Elements.{All-contains, All-from_recursion}
use Rattle.std.proofs.lemmas.List.Folds.{list_all-append}
use Rattle.std.proofs.lemmas.Str.{IsUtf8-from_ascii}
use Rattle.std.proofs.lemmas.Str.Parse.{digits_value-take-le}
use Rattle.semver_texts.specs.Texts.{IsRun, Text, has_no_leading_zero, is_part, is_part_byte, is_space}
use Rattle.semver_texts.specs.ToolVersions.{characters}
use Rattle.semver_texts.specs.WhiteSpace.{is_white_space}
use Rattle.semver_texts.specs.VersionGrammar.{IsIdentifierText}
use Rattle.semver_texts.proofs.DottedParts.{dotted_utf8}
use Rattle.semver_texts.proofs.Lists.{all_apart, ascii_from}
use Rattle.semver_texts.proofs.Numbers.{IsCanonical, all_digits, canonical_decimal, decimal_canonical, digits_value_number}
use Rattle.semver_texts.proofs.PartRuns.{part_passes}
use Rattle.invalid_strings.proofs.Completions.{Completes, IsCompleted, Joined, characters_append, each_shown, is_one, joined, one_of, same}
use Rattle.invalid_strings.proofs.FiniteLanguages.{finite, is_filled}

-- ---- bytes that pass a test

abbrev pub Passing : (ℕ → Bool) → Text → Type 0
Passing p t = AllByRecursion (λ b. IsTrue (p b)) t

pub passing_utf8 : (p : ℕ → Bool) → ((b : ℕ) → p b ≡ true → b < 128) → (t : Text) → Passing p t → IsUtf8 t
passing_utf8 p small t all = IsUtf8-from_ascii t (ascii_from p small t all)

pub passing : (p : ℕ → Bool) → ((b : ℕ) → p b ≡ true → b < 128) → Completes (Passing p) [] ([] ∷ [])
passing p small = record {
  contains = tt;
  utf8 = passing_utf8 p small;
  least_short = λ t is. omega arith;
  least_uncut = refl;
  goes = λ b t rest is. record {
    more = [];
    completion = (0, omega arith, refl);
    is = subst (Passing p) (sym (append-nil (b ∷ t))) (all_apart (λ b. IsTrue (p b)) (b ∷ t) rest is).0;
    short = omega arith;
    uncut = λ u. refl;
  };
}

pub space_small : (b : ℕ) → is_space b ≡ true → b < 128
space_small b y = grind (arith, nat_tests)

-- ---- the canonical decimal of a number below a limit

abbrev pub IsBelow : ℕ → Text → Type 0
IsBelow limit t = (n : ℕ) × (n < limit) × (t ≡ decimal n)

pub digits_prefix : (x y : Text) → all_ascii_digits (x ++ y) ≡ true → all_ascii_digits x ≡ true
digits_prefix [] y e = refl
digits_prefix (b ∷ x) y e = grind (arith, digits_prefix x y)

some_character : (t : Text) → 0 < length t → all_ascii_digits t ≡ true → 1 ≤ characters t
some_character [] some e = absurd (omega (arith, some))
some_character (b ∷ t) some e =
    let one : characters (b ∷ []) ≡ 1 = grind (arith, nat_tests) in omega (arith, characters_append (b ∷ []) t)

module _ (limit : ℕ) (some : 0 < limit) (large : limit ≤ 2 ^ 64) where
  zero_below : IsBelow limit (codes "0")
  zero_below = (0, some, sym (decimal_digit 0 (omega arith)))

  least_number : (t : Text) → IsBelow limit t → 1 ≤ characters t
  least_number t (n, small, e) =
      let fits : n < 2 ^ 64 = omega arith in
      subst (λ x. 1 ≤ characters x) (sym e) (some_character (decimal n) (decimal_nonempty n fits) (canonical_decimal n fits).digits)

  number_prefix : (b : ℕ) (t rest : Text) → IsBelow limit (b ∷ t ++ rest) → IsBelow limit (b ∷ t)
  number_prefix b t rest (n, small, e) =
      let fits : n < 2 ^ 64 = omega arith in
      let whole : IsCanonical (b ∷ t ++ rest) = subst IsCanonical (sym e) (canonical_decimal n fits) in
      let value = digits_value_number (b ∷ t ++ rest) n fits e in
      let less : digits_value 10 (b ∷ t) ≤ n = rw (← value)
      (subst (λ x. digits_value 10 x ≤ digits_value 10 (b ∷ t ++ rest)) (take-append_seam (b ∷ t) rest)
      (digits_value-take-le 10 (b ∷ t ++ rest) (length (b ∷ t)) (omega arith))) in
      let canonical : IsCanonical (b ∷ t) = record {
        digits = digits_prefix (b ∷ t) rest whole.digits;
        no_leading_zero = λ z. omega (arith, whole.no_leading_zero z, length-append t rest);
        small = omega arith;
      } in
      (digits_value 10 (b ∷ t), omega arith, sym (decimal_canonical (b ∷ t) (omega arith) canonical))

  number_utf8 : (t : Text) → IsBelow limit t → IsUtf8 t
  number_utf8 t (n, small, e) =
      let w = canonical_decimal n (omega arith) in
      subst IsUtf8 (sym e) (passing_utf8 is_ascii_digit (λ b y. grind (arith, nat_tests)) (decimal n) (all_digits (decimal n) w.digits))

  pub number : Completes (IsBelow limit) (codes "0") ([] ∷ [])
  number = record {
    contains = zero_below;
    utf8 = number_utf8;
    least_short = least_number;
    least_uncut = refl;
    goes = λ b t rest is. record {
      more = [];
      completion = (0, omega arith, refl);
      is = subst (IsBelow limit) (sym (append-nil (b ∷ t))) (number_prefix b t rest is);
      short = omega arith;
      uncut = λ u. refl;
    };
  }

-- ---- an identifier that passes a test, if any text that ends in `a` passes it

pub byte_apart : (x y : Text) → list_all is_part_byte (x ++ y) ≡ true → (list_all is_part_byte x ≡ true) × (list_all is_part_byte y ≡ true)
byte_apart x y e = and_parts (list_all is_part_byte x) (list_all is_part_byte y) (sym (list_all-append is_part_byte x y) ∙ e)

pub letter_part : (x : Text) → list_all is_part_byte x ≡ true → is_part (x ++ codes "a") ≡ true
letter_part [] e = refl
letter_part (b ∷ x) e = grind (arith, letter_part x)

part_some : (t : Text) → is_part t ≡ true → 1 ≤ characters t
part_some [] e = cc
part_some (b ∷ t) e =
    let one : characters (b ∷ []) ≡ 1 = grind (arith, nat_tests) in omega (arith, characters_append (b ∷ []) t)

abbrev pub IsPartWith : (Text → Bool) → Text → Type 0
IsPartWith passes t = (is_part t ≡ true) × (passes t ≡ true)

module _ (passes : Text → Bool) (with_letter : (x : Text) → passes (x ++ codes "a") ≡ true) where
  part_goes : (b : ℕ) (t rest : Text) → IsPartWith passes (b ∷ t ++ rest)
      → IsCompleted (IsPartWith passes) ([] ∷ codes "a" ∷ []) (b ∷ t) rest
  part_goes b t [] is = record { more = []; completion = (0, omega arith, refl); is = is; short = omega arith; uncut = λ u. refl }
  part_goes b t (c ∷ rest) is = let both = byte_apart (b ∷ t) (c ∷ rest) is.0 in record {
    more = codes "a";
    completion = (1, omega arith, refl);
    is = (letter_part (b ∷ t) both.0, with_letter (b ∷ t));
    short = part_some (c ∷ rest) both.1;
    uncut = λ u. refl;
  }

  part : Completes (IsPartWith passes) (codes "a") ([] ∷ codes "a" ∷ [])
  part = record {
    contains = (refl, with_letter []);
    utf8 = λ t is. dotted_utf8 t (part_passes t is.0);
    least_short = λ t is. part_some t is.0;
    least_uncut = refl;
    goes = part_goes;
  }

abbrev pub IsPre : Text → Type 0
IsPre = IsPartWith has_no_leading_zero

abbrev pub IsBuild : Text → Type 0
IsBuild = IsPartWith (λ t. true)

pub pre : Completes IsPre (codes "a") ([] ∷ codes "a" ∷ [])
pre = part has_no_leading_zero letter_stands
  where
    no_digits : (x : Text) → all_ascii_digits (x ++ codes "a") ≡ false
    no_digits [] = refl
    no_digits (b ∷ x) = grind (arith, no_digits x)

    letter_stands : (x : Text) → has_no_leading_zero (x ++ codes "a") ≡ true
    letter_stands x = rw (no_digits x) refl

pub build : Completes IsBuild (codes "a") ([] ∷ codes "a" ∷ [])
build = part (λ t. true) (λ x. refl)

-- ---- runs of letters and digits, joined by hyphens

run : Completes IsRun (codes "a") ([] ∷ [])
run = record {
  contains = (omega arith, (refl, tt));
  utf8 = λ t is. passing_utf8 is_ascii_alphanumeric (λ b y. grind (arith, nat_tests)) t is.1;
  least_short = run_some;
  least_uncut = refl;
  goes = λ b t rest is. record {
    more = [];
    completion = (0, omega arith, refl);
    is = subst IsRun (sym (append-nil (b ∷ t)))
        (omega arith, (all_apart (λ b. IsTrue (is_ascii_alphanumeric b)) (b ∷ t) rest is.1).0);
    short = omega arith;
    uncut = λ u. refl;
  };
}
  where
    run_some : (t : Text) → IsRun t → 1 ≤ characters t
    run_some [] is = absurd (omega (arith, is.0))
    run_some (b ∷ t) is =
        let alone = is.1.0 in
        let one : characters (b ∷ []) ≡ 1 = grind (arith, nat_tests) in omega (arith, characters_append (b ∷ []) t)

pub identifier : Completes IsIdentifierText (codes "a") (codes "a" ∷ [] ∷ [])
identifier = same (joined 45 (omega arith) run) IsIdentifierText to from
  where
    to : (t : Text) → Joined 45 IsRun t → IsIdentifierText t
    to t w = record { runs = w.first ∷ w.others; some = omega arith; each = w.each; joined = w.whole }

    from : (t : Text) → IsIdentifierText t → Joined 45 IsRun t
    from t w = from_runs w.runs w.some w.each w.joined
      where
        from_runs : (runs : List Text) → 0 < length runs → AllByRecursion IsRun runs → t ≡ join_with_byte 45 runs → Joined 45 IsRun t
        from_runs [] some each e = absurd (omega (arith, some))
        from_runs (x ∷ xs) some each e = record { first = x; others = xs; each = each; whole = e }

-- ---- a character that JavaScript calls white space

abbrev pub IsWhite : Text → Type 0
IsWhite t = is_white_space t ≡ true

-- all white space characters of JavaScript
whites : List Text
whites = map (λ b. b ∷ []) (32 ∷ 9 ∷ 10 ∷ 11 ∷ 12 ∷ 13 ∷ [])
    ++ ((0xC2 ∷ 0xA0 ∷ []) ∷ (0xE1 ∷ 0x9A ∷ 0x80 ∷ []) ∷ (0xE2 ∷ 0x81 ∷ 0x9F ∷ []) ∷ (0xE3 ∷ 0x80 ∷ 0x80 ∷ []) ∷ (0xEF ∷ 0xBB ∷ 0xBF ∷ [])
    ∷ map (λ c. 0xE2 ∷ 0x80 ∷ c ∷ [])
    (0x80 ∷ 0x81 ∷ 0x82 ∷ 0x83 ∷ 0x84 ∷ 0x85 ∷ 0x86 ∷ 0x87 ∷ 0x88 ∷ 0x89 ∷ 0x8A ∷ 0xA8 ∷ 0xA9 ∷ 0xAF ∷ []))

-- the empty text, and the last bytes of a white space character, for a prefix that ends within one
abbrev pub white_completions : List Text
white_completions = [] ∷ (0xA0 ∷ []) ∷ (0x9A ∷ 0x80 ∷ []) ∷ (0x80 ∷ 0x80 ∷ []) ∷ (0x81 ∷ 0x9F ∷ []) ∷ (0xBB ∷ 0xBF ∷ []) ∷ (0x80
    ∷ []) ∷ (0x9F ∷ [])
    ∷ (0xBF ∷ []) ∷ []

is_white : (t : Text) → is_one whites t ≡ true → IsWhite t
unfolding whites
is_white t y = All-contains IsWhite whites t (All-from_recursion IsWhite whites (each_shown is_white_space IsWhite (λ x white. white) whites refl))
    (one_of whites t y)

pub either : (x y : Bool) → (x || y) ≡ true → (x ≡ true) ⊎ (y ≡ true)
either true y e = inl refl
either false y e = inr e

white_is_one : (t : Text) → IsWhite t → is_one whites t ≡ true
unfolding whites
white_is_one [] is = cc
white_is_one (a ∷ []) is = grind (arith, nat_tests)
white_is_one (a ∷ b ∷ []) is = grind (arith, nat_tests)
white_is_one (a ∷ b ∷ c ∷ []) is = elim (either _ _ is) [
  | inl e ↦ these a b c 0xE1 0x9A 0x80 e refl
  | inr m ↦ elim (either _ _ m) [
    | inl e ↦ (let first = and_parts (a == 0xE2) ((b == 0x80 && (is_in_range 0x80 0x8A c || (c == 0xA8 || (c == 0xA9 || c == 0xAF)))) ||
        (b == 0x81 && c == 0x9F)) e in
        elim (either (b == 0x80 && (is_in_range 0x80 0x8A c || (c == 0xA8 || (c == 0xA9 || c == 0xAF)))) (b == 0x81 && c == 0x9F) first.1) [
          | inl g ↦ general a b c (eqb-true a 0xE2 first.0) (eqb-true b 0x80 (and_parts (b == 0x80) _ g).0) is
          | inr g ↦ these a b c 0xE2 0x81 0x9F (rw first.0 g) refl
        ])
    | inr n ↦ elim (either _ _ n) [
      | inl e ↦ these a b c 0xE3 0x80 0x80 e refl
      | inr e ↦ these a b c 0xEF 0xBB 0xBF e refl
    ]
  ]
]
  where
    these : (a b c x y z : ℕ) → ((a == x) && ((b == y) && (c == z))) ≡ true → is_one whites (x ∷ y ∷ z ∷ []) ≡ true
        → is_one whites (a ∷ b ∷ c ∷ []) ≡ true
    these a b c x y z e known =
        let first = and_parts (a == x) ((b == y) && (c == z)) e in
        let second = and_parts (b == y) (c == z) first.1 in
        rw (eqb-true a x first.0, eqb-true b y second.0, eqb-true c z second.1) known

    third : (c : ℕ) → IsWhite (0xE2 ∷ 0x80 ∷ c ∷ []) → is_one whites (0xE2 ∷ 0x80 ∷ c ∷ []) ≡ true
    third c is = grind (arith, nat_tests)

    general : (a b c : ℕ) → a ≡ 0xE2 → b ≡ 0x80 → IsWhite (a ∷ b ∷ c ∷ []) → is_one whites (a ∷ b ∷ c ∷ []) ≡ true
    general a b c e f is = rw (e, f) (third c (rw (e, f) at is))
white_is_one (a ∷ b ∷ c ∷ d ∷ t) is = cc

whites_filled : list_all (is_filled whites white_completions (codes " ")) whites ≡ true
unfolding whites is_utf8 chars lib.Utf8.encode
whites_filled = refl

pub white : Completes IsWhite (codes " ") white_completions
white = same (finite whites white_completions (codes " ") (white_is_one (codes " ") refl) refl whites_filled) IsWhite is_white white_is_one

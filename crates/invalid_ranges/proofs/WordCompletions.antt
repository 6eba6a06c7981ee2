-- Each prefix of a word of a range text, in the crate's and in npm's grammar, can be completed by
-- one of a few texts.
use Rattle.std.proofs.Common.{◌≡◌, ℕ, ◌+◌, ◌≤◌, ◌⊎◌, inl, inr, Bool, true, false, List, [], ◌∷◌, ◌++◌, codes, length, refl, sym, ap, ◌∙◌}
use Rattle.std.proofs.Common.{arith}
use Rattle.std.proofs.Common.{append-nil, cond, eqb, length-append, subst}
use Rattle.std.specs.Prelude.{◌&&◌, ◌||◌, ◌==◌, not, nat_le, if◌then◌else◌}
use Rattle.std.specs.Char.{is_ascii_digit}
use Rattle.std.specs.List.{AllByRecursion, list_all}
use Rattle.std.specs.Str.{all_ascii_digits}
use Rattle.std.proofs.lemmas.Bool.{and_parts, and_from}
use Rattle.std.proofs.lemmas.Bool.Decides.{nat_tests}
use Rattle.std.proofs.lemmas.List.Folds.{prefix_len-append}
use Rattle.std.proofs.lemmas.List.Sums.{prefix_len-le-length}
use Rattle.semver_texts.specs.NpmLimits.{max_build_length, max_length}
use Rattle.semver_texts.specs.Texts.{Text, has_no_leading_zero, is_empty, is_part, marked}
use Rattle.semver_texts.specs.declared.grammar.Grammar.{Grammar}
use Rattle.semver_texts.specs.declared.grammar.Grammar.TheVariants.{Crate, Npm}
use Rattle.semver_texts.proofs.Lists.{by_test}
use Rattle.semver_ranges.specs.NpmLengths.{is_short_number, is_short_pre, is_short_build, is_short_version, leading_digits}
use Rattle.semver_ranges.specs.declared.operator.Operator.TheVariants.{Bare, Tilde, Caret}
use Rattle.semver_ranges.specs.RangeTree.{PartialTree, one, two, three, Role, after_operator, after_hyphen, SpellsPartial, SpellsWord}
use Rattle.semver_ranges.specs.RangeTree.{has_short_parts, has_short_version, is_component, is_taken_whole, is_wildcard, is_word_of_npm}
use Rattle.semver_ranges.specs.RangeTree.{numbers_and_pre}
use Rattle.invalid_strings.proofs.Completions.{CompletesBy, Seq, among, any, both, byte_by, in_bytes, limited, optional, same, seq}
use Rattle.invalid_strings.proofs.Cores.{Marked, marked_from, marked_to}
use Rattle.invalid_strings.proofs.Leaves.{IsBuild, IsPartWith}
use Rattle.invalid_strings.proofs.VersionPrefixes.{all_true, parts_from, parts_to}
use Rattle.invalid_ranges.proofs.RangeLeaves.{closed, component_prefix, part, some_component, wildcard_prefix}
use Rattle.invalid_ranges.proofs.PartialCompletions.{Mark, Partial, IsThree, build_mark, cases, components_of_three, one_text, partial}
use Rattle.invalid_ranges.proofs.PartialCompletions.{pre_mark, spelled_one, spelled_two, spelled_three, three_is, three_text, two_text}

abbrev pub IsWord : Grammar → Role → Text → Type 0
IsWord d role t = (p : PartialTree) × SpellsWord d role p t

abbrev pub word_completions : List Text
word_completions = codes "" ∷ codes "*" ∷ codes "a" ∷ []

-- ---- the crate's words

abbrev IsComponent : Text → Type 0
IsComponent t = is_component t ≡ true

component : CompletesBy in_bytes IsComponent (codes "*") ([] ∷ [])
component = closed IsComponent (codes "*") refl refl some_component component_prefix

pub build : CompletesBy in_bytes IsBuild (codes "a") ([] ∷ codes "a" ∷ [])
build = part (λ t. true) refl (λ x c rest e. refl)

abbrev Marks : Text → Type 0
Marks = Seq (Marked 45 IsBuild) (Marked 43 IsBuild)

abbrev CratePartial : Text → Type 0
CratePartial = Partial IsComponent IsComponent IsComponent Marks

crate_from : (t : Text) → CratePartial t → (p : PartialTree) × SpellsPartial p t
crate_from t w = elim (cases IsComponent IsComponent IsComponent Marks t w) [
  | inl o ↦ (one t, spelled_one t o.is)
  | inr v ↦ elim v [
    | inl o ↦ (two o.a o.b, subst (SpellsPartial (two o.a o.b)) (sym o.whole) (spelled_two o.a o.b o.in_a o.in_b))
    | inr o ↦ (
        let pre = marked_from 45 IsBuild o.in_m.first o.in_m.in_first in
        let build = marked_from 43 IsBuild o.in_m.second o.in_m.in_second in (
          three o.a o.b o.c pre.texts build.texts,
          subst (SpellsPartial (three o.a o.b o.c pre.texts build.texts)) (sym o.whole)
              (spelled_three o.a o.b o.c o.m pre.texts build.texts o.in_a o.in_b o.in_c (parts_from (λ t. true) pre.texts pre.each).0
              (parts_from (λ t. true) build.texts build.each).0 (o.in_m.whole ∙ (λ i. pre.whole i ++ build.whole i))),
        ))
  ]
]

crate_to : (t : Text) → (p : PartialTree) × SpellsPartial p t → CratePartial t
crate_to t (one a, (e, parts, text)) =
    subst CratePartial (sym (text ∙ append-nil a)) (one_text IsComponent IsComponent IsComponent Marks a (and_parts
    (is_component a) true e).0)
crate_to t (two a b, (e, parts, text)) =
    let first = and_parts (is_component a) (is_component b && true) e in
    subst CratePartial (sym (text ∙ append-nil (a ++ (46 ∷ b))))
    (two_text IsComponent IsComponent IsComponent Marks a b first.0 (and_parts (is_component b) true first.1).0)
crate_to t (three a b c pre build, w) =
    let e = components_of_three a b c w.0 in
    subst CratePartial (sym (three_is a b c pre build t w))
    (three_text IsComponent IsComponent IsComponent Marks a b c _ e.0 e.1 e.2
    (both (marked (45 ∷ []) pre) (marked (43 ∷ []) build) (marked_to 45 IsBuild pre (parts_to (λ t. true) pre w.1.0 (all_true pre)))
    (marked_to 43 IsBuild build (parts_to (λ t. true) build w.1.1 (all_true build)))))

pub crate_words : (role : Role) → CompletesBy in_bytes (IsWord Crate role) (codes "*") word_completions
crate_words role =
    let marks = seq (optional (pre_mark build)) (optional (build_mark build)) in
    among (same (partial component component component marks) (IsWord Crate role) crate_from crate_to) word_completions refl

-- ---- npm's components and identifiers

-- `t` is a component that may replace `c`: it isn't longer, npm's limit allows it, and it is a
-- wildcard if `c` is one
abbrev InPlace : Text → Text → Type 0
InPlace c t = (is_component t ≡ true) × (is_short_number t ≡ true) × (length t ≤ length c) × (is_wildcard c ≡ true → is_wildcard t ≡ true)

in_place : (c : Text) → 1 ≤ length c → CompletesBy in_bytes (InPlace c) (codes "*") ([] ∷ [])
in_place c some = closed (InPlace c) (codes "*") (refl, refl, some, λ e. refl) refl (λ t is. some_component t is.0) prefix
  where
    prefix : (b : ℕ) (t rest : Text) → InPlace c (b ∷ t ++ rest) → InPlace c (b ∷ t)
    prefix b t rest is =
        let shorter = length-append (b ∷ t) rest in (
          component_prefix b t rest is.0,
          (let short = is.1 in grind (arith, nat_tests)),
          omega (arith, is.2, shorter),
          λ e. wildcard_prefix b t rest (is.3 e),
        )

abbrev is_npm_pre : Text → Bool
is_npm_pre t = has_no_leading_zero t && is_short_pre t

pub no_digits : (x : Text) → all_ascii_digits (x ++ codes "a") ≡ false
no_digits [] = refl
no_digits (b ∷ x) = grind (arith, no_digits x)

-- `is_short_pre` for an identifier of `n` bytes that begins with `d` digits
abbrev short_pre : ℕ → ℕ → Bool
short_pre d n = if d == n then nat_le n (max_length + 1) else nat_le d max_length && nat_le n (d + (max_build_length + 1))

-- if a prefix of `n` bytes and the `n'` bytes after it aren't too long together, the prefix and one
-- letter aren't
letter_short : (d n d' n' : ℕ) → d ≤ n → d' ≤ n' → 1 ≤ n' → short_pre (cond (eqb d n) (n + d') d) (n + n') ≡ true
    → short_pre (cond (eqb d n) (n + 0) d) (n + 1) ≡ true
letter_short d n d' n' a b c h = grind (arith, nat_tests)

pre_letter : (x : Text) (c : ℕ) (rest : Text) → is_npm_pre (x ++ (c ∷ rest)) ≡ true → is_npm_pre (x ++ codes "a") ≡ true
pre_letter x c rest e =
    let both = and_parts (has_no_leading_zero (x ++ (c ∷ rest))) (is_short_pre (x ++ (c ∷ rest))) e in
    let short : is_short_pre (x ++ codes "a") ≡ true = rw (prefix_len-append is_ascii_digit x (codes "a"), length-append x (codes "a"))
    (letter_short (leading_digits x) (length x) (leading_digits (c ∷ rest)) (length (c ∷ rest))
    (prefix_len-le-length is_ascii_digit x) (prefix_len-le-length is_ascii_digit (c ∷ rest)) (omega arith)
    (rw (prefix_len-append is_ascii_digit x (c ∷ rest), length-append x (c ∷ rest)) at both.1)) in
    and_from (has_no_leading_zero (x ++ codes "a")) (is_short_pre (x ++ codes "a")) (rw (no_digits x) refl) short

build_letter : (x : Text) (c : ℕ) (rest : Text) → is_short_build (x ++ (c ∷ rest)) ≡ true → is_short_build (x ++ codes "a") ≡ true
build_letter x c rest e =
    let whole = length-append x (c ∷ rest) in let letter = length-append x (codes "a") in grind (arith, nat_tests)

abbrev NpmPre : Text → Type 0
NpmPre = IsPartWith is_npm_pre

abbrev NpmBuild : Text → Type 0
NpmBuild = IsPartWith is_short_build

-- ---- the suffix after three of npm's components

-- if `k` is true, nothing, or a pre-release of at most `q` bytes and perhaps build metadata;
-- otherwise nothing or build metadata
abbrev NpmMarks : Bool → ℕ → Text → Type 0
NpmMarks true q t = (t ≡ []) ⊎ Seq (λ t. Mark 45 NpmPre t × (length t ≤ q)) (Marked 43 NpmBuild) t
NpmMarks false q t = Marked 43 NpmBuild t

npm_marks : (k : Bool) (q : ℕ) → 2 ≤ q → CompletesBy in_bytes (NpmMarks k q) [] ([] ∷ codes "a" ∷ [])
npm_marks true q some =
    let builds = optional (build_mark (part is_short_build refl build_letter)) in
    among (optional (seq (limited (pre_mark (part is_npm_pre refl pre_letter)) q some) builds)) ([] ∷ codes "a" ∷ []) refl
npm_marks false q some = among (optional (build_mark (part is_short_build refl build_letter))) ([] ∷ codes "a" ∷ []) refl

-- the parts of such a suffix
record AreMarks (k : Bool) (q : ℕ) (t : Text) : Type 0 where
  pre : List Text
  build : List Text
  pre_each : AllByRecursion NpmPre pre
  build_each : AllByRecursion NpmBuild build
  whole : t ≡ marked (45 ∷ []) pre ++ marked (43 ∷ []) build
  short : length (marked (45 ∷ []) pre) ≤ q
  contains : not (is_empty pre) ≡ true → k ≡ true
  alone : k ≡ true → not (is_empty pre) ≡ false → t ≡ []

marks_from : (k : Bool) (q : ℕ) (t : Text) → NpmMarks k q t → AreMarks k q t
marks_from true q t (inl e) = record {
  pre = [];
  build = [];
  pre_each = tt;
  build_each = tt;
  whole = e;
  short = omega arith;
  contains = λ y. refl;
  alone = λ y n. e;
}
marks_from true q t (inr w) =
    let all = w.in_first.0.in_second in
    let build = marked_from 43 NpmBuild w.second w.in_second in
    let pre : w.first ≡ marked (45 ∷ []) (all.first ∷ all.others) = w.in_first.0.whole
    ∙ (λ i. w.in_first.0.in_first i ++ all.whole i) in record {
      pre = all.first ∷ all.others;
      build = build.texts;
      pre_each = all.each;
      build_each = build.each;
      whole = w.whole ∙ (λ i. pre i ++ build.whole i);
      short = omega (arith, w.in_first.1, ap length pre);
      contains = λ y. refl;
      alone = λ y n. absurd (cc);
    }
marks_from false q t w = let build = marked_from 43 NpmBuild t w in record {
  pre = [];
  build = build.texts;
  pre_each = tt;
  build_each = build.each;
  whole = build.whole;
  short = omega arith;
  contains = λ y. absurd (cc);
  alone = λ y n. absurd (cc);
}

marks_to : (pre build : List Text) (q : ℕ) → AllByRecursion NpmPre pre → AllByRecursion NpmBuild build → length (marked (45 ∷ []) pre) ≤ q
    → NpmMarks (not (is_empty pre)) q (marked (45 ∷ []) pre ++ marked (43 ∷ []) build)
marks_to [] build q all others short = marked_to 43 NpmBuild build others
marks_to (x ∷ xs) build q all others short = inr (record {
  first = marked (45 ∷ []) (x ∷ xs);
  second = marked (43 ∷ []) build;
  in_first = (
    record {
      first = codes "-";
      second = _;
      in_first = refl;
      in_second = record { first = x; others = xs; each = all; whole = refl };
      whole = refl;
    },
    short,
  );
  in_second = marked_to 43 NpmBuild build others;
  whole = refl;
})

-- ---- npm's limits on lengths

-- whether node-semver copies a word as a whole; `k` says whether the word has a pre-release
abbrev is_whole : Role → Bool → Bool
is_whole (after_operator Tilde) k = false
is_whole (after_operator Caret) k = false
is_whole (after_operator _) k = true
is_whole after_hyphen k = not k

taken : (role : Role) (a b c : Text) (pre build : List Text)
    → is_taken_whole role (three a b c pre build) ≡ is_whole role (not (is_empty pre))
taken (after_operator Bare) a b c pre _ = refl
taken (after_operator _) a b c pre _ = refl
taken after_hyphen a b c [] _ = refl
taken after_hyphen a b c (x ∷ xs) _ = refl

abbrev extra : Bool → ℕ → ℕ
extra true q = q
extra false q = 0

-- a word of `n` bytes isn't too long; its numbers and its pre-release have `size` bytes
abbrev IsShort : Role → Bool → ℕ → ℕ → Type 0
IsShort role k n size = (is_whole role k ≡ true → n ≤ max_length) × (is_whole role k ≡ false → size ≤ max_length)

-- nor is a word whose parts aren't longer. It may have a pre-release only if the first word has one,
-- and if it lacks the first word's pre-release, it has no build metadata
stays : (role : Role) (k k' : Bool) (n n' core core' q q' : ℕ) → n' ≤ n → core' ≤ core → q' ≤ extra k' q → 2 ≤ q → (k' ≡ true → k ≡ true)
    → (k ≡ true → k' ≡ false → n' ≤ core' + 1) → IsShort role k n (core + extra k q) → IsShort role k' n' (core' + q')
stays (after_operator Bare) k k' n n' core core' q q' a b c d e f g = (λ y. omega (arith, a, g.0 refl), λ y. absurd (cc))
stays (after_operator Tilde) true true n n' core core' q q' a b c d e f g = (λ y. absurd (cc), λ y. omega (arith, b, c, g.1 refl))
stays (after_operator Tilde) true false n n' core core' q q' a b c d e f g = (λ y. absurd (cc), λ y. omega (arith, b, c, g.1 refl))
stays (after_operator Tilde) false true n n' core core' q q' a b c d e f g = absurd (let h = e refl in cc)
stays (after_operator Tilde) false false n n' core core' q q' a b c d e f g = (λ y. absurd (cc), λ y. omega (arith, b, c, g.1 refl))
stays (after_operator Caret) true true n n' core core' q q' a b c d e f g = (λ y. absurd (cc), λ y. omega (arith, b, c, g.1 refl))
stays (after_operator Caret) true false n n' core core' q q' a b c d e f g = (λ y. absurd (cc), λ y. omega (arith, b, c, g.1 refl))
stays (after_operator Caret) false true n n' core core' q q' a b c d e f g = absurd (let h = e refl in cc)
stays (after_operator Caret) false false n n' core core' q q' a b c d e f g = (λ y. absurd (cc), λ y. omega (arith, b, c, g.1 refl))
stays (after_operator _) k k' n n' core core' q q' a b c d e f g = (λ y. omega (arith, a, g.0 refl), λ y. absurd (cc))
stays after_hyphen true true n n' core core' q q' a b c d e f g = (λ y. absurd (cc), λ y. omega (arith, b, c, g.1 refl))
stays after_hyphen true false n n' core core' q q' a b c d e f g = (λ y. omega (arith, b, d, f refl refl, g.1 refl), λ y. absurd (cc))
stays after_hyphen false true n n' core core' q q' a b c d e f g = absurd (let h = e refl in cc)
stays after_hyphen false false n n' core core' q q' a b c d e f g = (λ y. omega (arith, a, g.0 refl), λ y. absurd (cc))

-- ---- npm's words

-- a word, as far as it limits the words that replace it: its components, whether it has a
-- pre-release, of how many bytes, and the bytes of the word
record Model (role : Role) : Type 0 where
  a : Text
  b : Text
  c : Text
  k : Bool
  q : ℕ
  n : ℕ
  a_some : 1 ≤ length a
  b_some : 1 ≤ length b
  c_some : 1 ≤ length c
  q_some : 2 ≤ q
  n_some : 1 ≤ n
  is_short : is_wildcard a ≡ false → is_wildcard b ≡ false → is_wildcard c ≡ false
      → IsShort role k n ((length a + (length b + length c) + 2) + extra k q)

abbrev IsV : Text → Type 0
IsV t = (t ≡ []) ⊎ (t ≡ codes "v")

-- ---- lemmas about lengths

v_short : (v : Text) → IsV v → length v ≤ 1
v_short v (inl e) = omega (arith, ap length e)
v_short v (inr e) = omega (arith, ap length e)

not_wild : (c t : Text) → (is_wildcard c ≡ true → is_wildcard t ≡ true) → is_wildcard t ≡ false → is_wildcard c ≡ false
not_wild c t keeps e = by_test (is_wildcard c) (λ y. absurd (let h = keeps y in cc)) (λ n. n)

size_of : (a b c pre : Text) → length ((a ++ (46 ∷ (b ++ (46 ∷ c)))) ++ pre) ≡ (length a + (length b + length c) + 2) + length pre
size_of a b c pre = simp (length-append) (omega arith)

each_passes : (ts : List Text) → list_all is_npm_pre ts ≡ true
    → (list_all has_no_leading_zero ts ≡ true) × (list_all is_short_pre ts ≡ true)
each_passes [] e = (refl, refl)
each_passes (t ∷ ts) e =
    let first = and_parts (is_npm_pre t) (list_all is_npm_pre ts) e in
    let here = and_parts (has_no_leading_zero t) (is_short_pre t) first.0 in
    let more = each_passes ts first.1 in (and_from _ _ here.0 more.0, and_from _ _ here.1 more.1)

all_pass : (ts : List Text) → list_all has_no_leading_zero ts ≡ true → list_all is_short_pre ts ≡ true → list_all is_npm_pre ts ≡ true
all_pass [] e f = refl
all_pass (t ∷ ts) e f =
    let zero = and_parts (has_no_leading_zero t) (list_all has_no_leading_zero ts) e in
    let short = and_parts (is_short_pre t) (list_all is_short_pre ts) f in
    and_from (is_npm_pre t) _ (and_from _ _ zero.0 short.0) (all_pass ts zero.1 short.1)

none_wild : (x y z : Bool) → not (x || (y || z)) ≡ true → (x ≡ false) × (y ≡ false) × (z ≡ false)
none_wild false false false e = (refl, refl, refl)
none_wild false false true e = absurd (cc)
none_wild false true z e = absurd (cc)
none_wild true y z e = absurd (cc)

no_wild : (x y z : Bool) → x ≡ false → y ≡ false → z ≡ false → not (x || (y || z)) ≡ true
no_wild x y z a b c = rw (a, b, c) refl

short_by : (w : Bool) (n k : ℕ) → (w ≡ true → n ≤ max_length) × (w ≡ false → k ≤ max_length) → is_short_version (if w then n else k) ≡ true
short_by true n k h = let less = h.0 refl in grind (arith, nat_tests)
short_by false n k h = let less = h.1 refl in grind (arith, nat_tests)

by_short : (w : Bool) (n k : ℕ) → is_short_version (if w then n else k) ≡ true → (w ≡ true → n ≤ max_length) × (w ≡ false → k ≤ max_length)
by_short true n k h = (λ y. grind (arith, nat_tests), λ y. absurd (cc))
by_short false n k h = (λ y. absurd (cc), λ y. grind (arith, nat_tests))

-- the number of bytes of a pre-release with its mark; 2, the smallest such number, if there is none
abbrev pre_size : List Text → ℕ
pre_size [] = 2
pre_size (x ∷ xs) = length (marked (45 ∷ []) (x ∷ xs))

pre_some : (pre : List Text) → list_all is_part pre ≡ true → 2 ≤ pre_size pre
pre_some [] e = omega arith
pre_some ([] ∷ xs) e = absurd (cc)
pre_some ((b ∷ x) ∷ []) e = omega arith
pre_some ((b ∷ x) ∷ y ∷ ys) e = omega arith

within_extra : (pre : List Text) (q : ℕ) → length (marked (45 ∷ []) pre) ≤ q → length (marked (45 ∷ []) pre) ≤ extra (not (is_empty pre)) q
within_extra [] q less = omega arith
within_extra (x ∷ xs) q less = less

extra_is : (pre : List Text) → extra (not (is_empty pre)) (pre_size pre) ≡ length (marked (45 ∷ []) pre)
extra_is [] = refl
extra_is (x ∷ xs) = refl

size_fits : (pre : List Text) → length (marked (45 ∷ []) pre) ≤ pre_size pre
size_fits [] = omega arith
size_fits (x ∷ xs) = omega arith

module _ (role : Role) where
  -- a word of three components isn't too long if and only if `IsShort` holds, or a component is a
  -- wildcard
  short_three : (a b c : Text) (pre build : List Text) (n : ℕ)
      → (is_wildcard a ≡ false → is_wildcard b ≡ false → is_wildcard c ≡ false
      → IsShort role (not (is_empty pre)) n ((length a + (length b + length c) + 2) + length (marked (45 ∷ []) pre)))
      → has_short_version role (three a b c pre build) n ≡ true
  short_three a b c pre build n h = by_test (not (is_wildcard a || (is_wildcard b || is_wildcard c)))
      (λ y. let none = none_wild (is_wildcard a) (is_wildcard b) (is_wildcard c) y in
      rw y (rw (taken role a b c pre build) (short_by (is_whole role (not (is_empty pre))) n (length (numbers_and_pre
      (three a b c pre build)))
      (subst (IsShort role (not (is_empty pre)) n) (sym (size_of a b c (marked (45 ∷ []) pre))) (h none.0 none.1 none.2)))))
      (λ m. rw m refl)

  three_short : (a b c : Text) (pre build : List Text) (n : ℕ) → has_short_version role (three a b c pre build) n ≡ true
      → is_wildcard a ≡ false → is_wildcard b ≡ false → is_wildcard c ≡ false
      → IsShort role (not (is_empty pre)) n ((length a + (length b + length c) + 2) + length (marked (45 ∷ []) pre))
  three_short a b c pre build n h x y z =
      let e = no_wild (is_wildcard a) (is_wildcard b) (is_wildcard c) x y z in
      let short : is_short_version (if is_taken_whole role (three a b c pre build) then n
      else length (numbers_and_pre (three a b c pre build))) ≡ true
      = rw e at h in
      subst (IsShort role (not (is_empty pre)) n) (size_of a b c (marked (45 ∷ []) pre))
      (by_short (is_whole role (not (is_empty pre))) n (length (numbers_and_pre (three a b c pre build)))
      (rw (taken role a b c pre build) at short))

  module _ (i : Model role) where
    abbrev Numbers : Text → Type 0
    Numbers = Partial (InPlace i.a) (InPlace i.b) (InPlace i.c) (NpmMarks i.k i.q)

    abbrev Modelled : Text → Type 0
    Modelled t = Seq IsV Numbers t × (length t ≤ i.n)

    modelled : CompletesBy in_bytes Modelled (codes "*") word_completions
    modelled =
        let numbers = partial (in_place i.a i.a_some) (in_place i.b i.b_some) (in_place i.c i.c_some) (npm_marks i.k i.q i.q_some) in
        among (limited (seq (optional (byte_by in_bytes 118 (omega arith))) numbers) i.n i.n_some) word_completions refl

    -- three components that may replace those of the model
    module _ (t v back : Text) (v_is : IsV v) (whole : t ≡ v ++ back) (less : length t ≤ i.n)
        (o : IsThree (InPlace i.a) (InPlace i.b) (InPlace i.c) (NpmMarks i.k i.q) back) where
      abbrev marks : AreMarks i.k i.q o.m
      marks = marks_from i.k i.q o.m o.in_m

      alone_short : i.k ≡ true → not (is_empty marks.pre) ≡ false → length t ≤ (length o.a + (length o.b + length o.c) + 2) + 1
      alone_short y n =
          let none = marks.alone y n in
          let size : length back ≡ length (o.a ++ (46 ∷ (o.b ++ (46 ∷ (o.c ++ []))))) =
          ap length (o.whole ∙ ap (λ x. o.a ++ (46 ∷ (o.b ++ (46 ∷ (o.c ++ x))))) none) in
          let sum : length (o.a ++ (46 ∷ (o.b ++ (46 ∷ (o.c ++ []))))) ≡ length o.a + (length o.b + length o.c) + 2 =
          simp (length-append, append-nil) (omega arith) in
          omega (arith, ap length whole ∙ length-append v back, v_short v v_is, size, sum)

      short : is_wildcard o.a ≡ false → is_wildcard o.b ≡ false → is_wildcard o.c ≡ false
          → IsShort role (not (is_empty marks.pre)) (length t) ((length o.a + (length o.b + length o.c) + 2) + length (marked
          (45 ∷ []) marks.pre))
      short x y z = stays role i.k (not (is_empty marks.pre)) i.n (length t) (length i.a + (length i.b + length i.c) + 2)
          (length o.a + (length o.b + length o.c) + 2) i.q (length (marked (45 ∷ []) marks.pre)) less
          (omega (arith, o.in_a.2, o.in_b.2, o.in_c.2)) (within_extra marks.pre i.q marks.short) i.q_some marks.contains alone_short
          (i.is_short (not_wild i.a o.a o.in_a.3 x) (not_wild i.b o.b o.in_b.3 y) (not_wild i.c o.c o.in_c.3 z))

      three_word : IsWord Npm role t
      three_word =
          let pre = parts_from is_npm_pre marks.pre marks.pre_each in
          let build = parts_from is_short_build marks.build marks.build_each in
          let passes = each_passes marks.pre pre.1 in
          let parts : has_short_parts (three o.a o.b o.c marks.pre marks.build) ≡ true =
          rw (o.in_a.1, o.in_b.1, o.in_c.1, passes.1, build.1) refl in (
            three o.a o.b o.c marks.pre marks.build,
            (
              v,
              back,
              v_is,
              subst (SpellsPartial (three o.a o.b o.c marks.pre marks.build)) (sym o.whole)
                  (spelled_three o.a o.b o.c o.m marks.pre marks.build o.in_a.0 o.in_b.0 o.in_c.0 pre.0 build.0 marks.whole),
              and_from _ _ passes.0 (and_from _ _ parts (short_three o.a o.b o.c marks.pre marks.build (length t) short)),
              whole,
            ),
          )

    word_from : (t : Text) → Modelled t → IsWord Npm role t
    word_from t (s, less) = elim (cases (InPlace i.a) (InPlace i.b) (InPlace i.c) (NpmMarks i.k i.q) s.second s.in_second) [
      | inl o ↦ (one s.second, (s.first, s.second, s.in_first, spelled_one s.second o.is.0, rw (o.is.1) refl, s.whole))
      | inr w ↦ elim w [
        | inl o ↦ (
          two o.a o.b,
          (
            s.first,
            s.second,
            s.in_first,
            subst (SpellsPartial (two o.a o.b)) (sym o.whole) (spelled_two o.a o.b o.in_a.0 o.in_b.0),
            rw (o.in_a.1, o.in_b.1) refl,
            s.whole,
          ),
        )
        | inr o ↦ three_word t s.first s.second s.in_first s.whole less o
      ]
    ]

  same_place : (c : Text) → is_component c ≡ true → is_short_number c ≡ true → InPlace c c
  same_place c e short = (e, short, omega arith, λ w. w)

  -- the text is a word of some model; each of npm's words is one of its own model
  IsModelled : Text → Type 0
  IsModelled t = (i : Model role) × Modelled i t

  size_in : (t v back : Text) → t ≡ v ++ back → length back ≤ length t
  size_in t v back e = omega (arith, ap length e ∙ length-append v back)

  module _ (t v back : Text) (v_is : IsV v) (whole : t ≡ v ++ back) (some : 1 ≤ length back) where
    in_place_of : (a b c : Text) (k : Bool) (q : ℕ) → 1 ≤ length a → 1 ≤ length b → 1 ≤ length c → 2 ≤ q
        → (is_wildcard a ≡ false → is_wildcard b ≡ false → is_wildcard c ≡ false
        → IsShort role k (length t) ((length a + (length b + length c) + 2) + extra k q))
        → Partial (InPlace a) (InPlace b) (InPlace c) (NpmMarks k q) back → IsModelled t
    unfolding IsModelled
    in_place_of a b c k q a_some b_some c_some q_some short is =
        let i : Model role = record {
          a = a;
          b = b;
          c = c;
          k = k;
          q = q;
          n = length t;
          a_some = a_some;
          b_some = b_some;
          c_some = c_some;
          q_some = q_some;
          n_some = omega (arith, size_in t v back whole, some);
          is_short = short;
        } in (i, (record { first = v; second = back; in_first = v_is; in_second = is; whole = whole }, omega arith))

    one_to : (a : Text) → is_component a ≡ true → is_short_number a ≡ true → back ≡ a → IsModelled t
    one_to a e short text =
        in_place_of a (codes "*") (codes "*") false 2 (some_component a e) (omega arith) (omega arith) (omega arith) (λ x y z. absurd (cc))
        (subst (Partial (InPlace a) (InPlace (codes "*")) (InPlace (codes "*")) (NpmMarks false 2)) (sym text)
        (one_text (InPlace a) (InPlace (codes "*")) (InPlace (codes "*")) (NpmMarks false 2) a (same_place a e short)))

    two_to : (a b : Text) → is_component a ≡ true → is_component b ≡ true → is_short_number a ≡ true → is_short_number b ≡ true
        → back ≡ a ++ (46 ∷ b) → IsModelled t
    two_to a b e f short_a short_b text =
        in_place_of a b (codes "*") false 2 (some_component a e) (some_component b f) (omega arith) (omega arith) (λ x y z. absurd (cc))
        (subst (Partial (InPlace a) (InPlace b) (InPlace (codes "*")) (NpmMarks false 2)) (sym text)
        (two_text (InPlace a) (InPlace b) (InPlace (codes "*")) (NpmMarks false 2) a b (same_place a e short_a) (same_place b f short_b)))

    three_to : (a b c : Text) (pre build : List Text) → SpellsPartial (three a b c pre build) back
        → is_word_of_npm role (three a b c pre build) (length t) ≡ true → IsModelled t
    three_to a b c pre build spelled is =
        let e = components_of_three a b c spelled.0 in
        let first = and_parts (list_all has_no_leading_zero pre) _ is in
        let others = and_parts (has_short_parts (three a b c pre build)) (has_short_version role (three a b c pre build)
        (length t)) first.1 in
        let parts = and_parts (list_all is_short_number (a ∷ b ∷ c ∷ []))
        (list_all is_short_pre pre && list_all is_short_build build) others.0 in
        let marks = and_parts (list_all is_short_pre pre) (list_all is_short_build build) parts.1 in
        let short_a = and_parts (is_short_number a) (is_short_number b && (is_short_number c && true)) parts.0 in
        let short_b = and_parts (is_short_number b) (is_short_number c && true) short_a.1 in
        let short_c = and_parts (is_short_number c) true short_b.1 in
        let text = three_is a b c pre build back spelled in
        in_place_of a b c (not (is_empty pre)) (pre_size pre) (some_component a e.0) (some_component b e.1) (some_component c e.2)
        (pre_some pre spelled.1.0)
        (λ x y z. subst (λ m. IsShort role (not (is_empty pre)) (length t) ((length a + (length b + length c) + 2) + m))
        (sym (extra_is pre)) (three_short a b c pre build (length t) others.1 x y z))
        (subst (Partial (InPlace a) (InPlace b) (InPlace c) (NpmMarks (not (is_empty pre)) (pre_size pre))) (sym text)
        (three_text (InPlace a) (InPlace b) (InPlace c) (NpmMarks (not (is_empty pre)) (pre_size pre)) a b c _
        (same_place a e.0 short_a.0) (same_place b e.1 short_b.0) (same_place c e.2 short_c.0)
        (marks_to pre build (pre_size pre) (parts_to is_npm_pre pre spelled.1.0 (all_pass pre first.0 marks.0))
        (parts_to is_short_build build spelled.1.1 marks.1) (size_fits pre))))

  some_back : (p : PartialTree) (t : Text) → SpellsPartial p t → 1 ≤ length t
  some_back p t spelled = let w = crate_to t (p, spelled) in
      omega (arith, ap length w.whole ∙ length-append w.first w.second, some_component w.first w.in_first)

  word_to : (t : Text) → IsWord Npm role t → IsModelled t
  word_to t (one a, (v, back, v_is, spelled, is, whole)) =
      one_to t v back v_is whole (some_back (one a) back spelled) a (and_parts (is_component a) true spelled.0).0 (grind arith)
      (spelled.2 ∙ append-nil a)
  word_to t (two a b, (v, back, v_is, spelled, is, whole)) =
      let first = and_parts (is_component a) (is_component b && true) spelled.0 in
      two_to t v back v_is whole (some_back (two a b) back spelled) a b first.0 (and_parts (is_component b) true first.1).0
      (grind arith) (grind arith) (spelled.2 ∙ append-nil (a ++ (46 ∷ b)))
  word_to t (three a b c pre build, (v, back, v_is, spelled, is, whole)) =
      three_to t v back v_is whole (some_back (three a b c pre build) back spelled) a b c pre build spelled is

  shortest : Model role
  shortest = record {
    a = codes "*";
    b = codes "*";
    c = codes "*";
    k = false;
    q = 2;
    n = 1;
    a_some = omega arith;
    b_some = omega arith;
    c_some = omega arith;
    q_some = omega arith;
    n_some = omega arith;
    is_short = λ x y z. absurd (cc);
  }

  pub npm_words : CompletesBy in_bytes (IsWord Npm role) (codes "*") word_completions
  unfolding IsModelled
  npm_words = same (any Modelled (λ i. codes "*") (λ i. word_completions) word_completions modelled (λ i. refl) shortest (λ i. omega arith))
      (IsWord Npm role) (λ t w. word_from w.0 t w.1) word_to

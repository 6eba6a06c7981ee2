-- How the prefixes of the texts of a language are completed, also if the language is built from
-- others. The empty prefix is completed by a shortest text. Any other prefix is completed by one of a
-- few completions. Compared with the rest after the prefix in a text of the language, that completion
-- is not longer, and it begins within a character only if the rest does.
use Rattle.std.proofs.Common.{◌≡◌, ℕ, ◌+◌, ◌<◌, ◌≤◌, ◌⊎◌, inl, inr, cond, Bool, true, false, List, [], ◌∷◌, ◌++◌, map, length}
use Rattle.std.proofs.Common.{refl, sym, ap, ◌∙◌, subst, arith, append-nil, append_assoc}
use Rattle.std.specs.Prelude.{nat_le, not, ◌&&◌, ◌||◌}
use Rattle.std.specs.Str.{IsUtf8, bytes_eq}
use Rattle.std.proofs.lemmas.Bool.{and_parts}
use Rattle.std.proofs.lemmas.Slice.Eq.{bytes_eq-Decides}
use Rattle.std.proofs.lemmas.Bool.Decides.{nat_tests}
use Rattle.std.proofs.lemmas.Str.{IsCharBoundary-start, IsUtf8-append, IsUtf8-from_ascii, IsUtf8-nil}
use Rattle.std.proofs.lemmas.Str.Ascii.{IsAscii-cons, IsAscii-nil}
use Rattle.std.specs.List.{AllByRecursion, Contains, concat, join_with_byte, list_all}
use Rattle.std.proofs.lemmas.List.{get_or-map, length-append, length-map}
use Rattle.std.proofs.lemmas.List.Elements.{Contains-append_left, Contains-append_right, All-contains, All-from_recursion}
use Rattle.std.proofs.lemmas.List.Sums.{sum_by-append}
use Rattle.semver_texts.specs.Texts.{Text}
use Rattle.semver_texts.specs.ToolVersions.{characters, goes_on}
use Rattle.semver_texts.proofs.Lists.{by_test}
use Rattle.invalid_strings.specs.Prefixes.{AreCompletions, AreShort, GoesOn}

-- ---- completions

-- whether the text begins within a character
abbrev pub is_cut : Text → Bool
is_cut [] = false
is_cut (b ∷ t) = goes_on b

-- how the lengths of texts are measured: in characters, if all texts of the language are UTF-8, or in
-- bytes
pub data Measure : Type 0 where
  in_characters in_bytes : Measure

abbrev pub size : Measure → Text → ℕ
size in_characters t = characters t
size in_bytes t = length t

abbrev pub IsMeasured : Measure → Text → Type 0
IsMeasured in_characters t = IsUtf8 t
IsMeasured in_bytes t = Unit {0}

pub record IsCompletedBy (m : Measure) (Is : Text → Type 0) (completions : List Text) (t rest : Text) : Type 0 where
  pub more : Text
  pub completion : Contains completions more
  pub is : Is (t ++ more)
  pub short : size m more ≤ size m rest
  pub uncut : is_cut rest ≡ false → is_cut more ≡ false

pub record CompletesBy (m : Measure) (Is : Text → Type 0) (least : Text) (completions : List Text) : Type 0 where
  pub contains : Is least
  pub utf8 : (t : Text) → Is t → IsMeasured m t
  pub least_short : (t : Text) → Is t → size m least ≤ size m t
  pub least_uncut : is_cut least ≡ false
  pub goes : (b : ℕ) (t rest : Text) → Is (b ∷ t ++ rest) → IsCompletedBy m Is completions (b ∷ t) rest

abbrev pub IsCompleted : (Text → Type 0) → List Text → Text → Text → Type 0
IsCompleted = IsCompletedBy in_characters

abbrev pub Completes : (Text → Type 0) → Text → List Text → Type 0
Completes = CompletesBy in_characters

-- ---- lengths, the two sides of a cut, and lists of completions

pub characters_append : (x y : Text) → characters (x ++ y) ≡ characters x + characters y
characters_append x y = sum_by-append (λ b. cond (not (goes_on b)) 1 0) x y

pub size_append : (m : Measure) (x y : Text) → size m (x ++ y) ≡ size m x + size m y
size_append in_characters x y = characters_append x y
size_append in_bytes x y = length-append x y

size_nothing : (m : Measure) → size m [] ≡ 0
size_nothing in_characters = refl
size_nothing in_bytes = refl

measured_nothing : (m : Measure) → IsMeasured m []
measured_nothing in_characters = IsUtf8-nil
measured_nothing in_bytes = tt

measured_append : (m : Measure) (x y : Text) → IsMeasured m x → IsMeasured m y → IsMeasured m (x ++ y)
measured_append in_characters x y v w = IsUtf8-append x y v w
measured_append in_bytes x y v w = tt

abbrev CutAt : Text → Text → Text → Text → Type 0
CutAt x y t rest = ((r : Text) × (x ≡ t ++ r) × (rest ≡ r ++ y)) ⊎ ((b : ℕ) × (m : Text) × (t ≡ x ++ (b ∷ m)) × (y ≡ b ∷ (m ++ rest)))

cut_at : (x y t rest : Text) → t ++ rest ≡ x ++ y → CutAt x y t rest
cut_at x y [] rest e = inl (x, refl, e)
cut_at [] y (b ∷ t) rest e = inr (b, t, refl, sym e)
cut_at (a ∷ x) y (b ∷ t) rest e =
    let head : b ≡ a = cc in
    let tail : t ++ rest ≡ x ++ y = cc in
    elim (cut_at x y t rest tail) [
      | inl w ↦ inl (w.0, (let f = w.1 in cc), w.2)
      | inr w ↦ inr (w.0, w.1, (let f = w.2 in cc), w.3)
    ]

cut_prefix : (r y rest : Text) → rest ≡ r ++ y → is_cut rest ≡ false → is_cut r ≡ false
cut_prefix [] y rest e uncut = refl
cut_prefix (b ∷ r) y rest e uncut = sym (ap is_cut e) ∙ uncut

append_uncut : (x y : Text) → is_cut x ≡ false → is_cut y ≡ false → is_cut (x ++ y) ≡ false
append_uncut [] y e f = f
append_uncut (b ∷ x) y e f = e

contains_mapped : (f : Text → Text) (xs : List Text) (x : Text) → Contains xs x → Contains (map f xs) (f x)
contains_mapped f xs x w = (
  w.0,
  omega (arith, w.1, length-map xs f),
  get_or-map f xs w.0 x (f x) w.1 ∙ ap f w.2,
)

-- UTF-8 doesn't begin within a character
utf8_uncut : (t : Text) → IsUtf8 t → is_cut t ≡ false
utf8_uncut [] utf8 = refl
utf8_uncut (b ∷ t) utf8 = let w = IsCharBoundary-start (b ∷ t) utf8 in lead b (λ high. w.1 (omega arith) high)
  where
    lead : (b : ℕ) → (128 ≤ b → 192 ≤ b) → goes_on b ≡ false
    lead b high = grind (arith, nat_tests)

-- whether the text is in the list
abbrev pub is_one : List Text → Text → Bool
is_one [] e = false
is_one (o ∷ os) e = bytes_eq o e || is_one os e

pub one_of : (os : List Text) (e : Text) → is_one os e ≡ true → Contains os e
one_of [] e y = cc
one_of (o ∷ os) e y =
    by_test (bytes_eq o e) (λ same. (0, omega arith, grind (arith, bytes_eq-Decides o e)))
    (λ n. Contains-append_right (o ∷ []) os e (one_of os e (rw n at y)))

pub each_shown : (test : Text → Bool) (P : Text → Type 0) → ((e : Text) → test e ≡ true → P e)
    → (es : List Text) → list_all test es ≡ true → AllByRecursion P es
each_shown test P shows [] y = tt
each_shown test P shows (e ∷ es) y =
    let both = and_parts (test e) (list_all test es) y in (shows e both.0, each_shown test P shows es both.1)

each_one : (os es : List Text) → list_all (is_one os) es ≡ true → AllByRecursion (Contains os) es
each_one os es y = each_shown (is_one os) (Contains os) (one_of os) es y

all_among : (os es : List Text) → list_all (is_one os) es ≡ true → (e : Text) → Contains es e → Contains os e
all_among os es y e = All-contains (Contains os) es e (All-from_recursion (Contains os) es (each_one os es y))

-- whether each of `others` has at most 8 bytes, and each of `es` is one of them or begins within a
-- character
abbrev pub are_among : List Text → List Text → Bool
are_among others es = list_all (λ e. nat_le (length e) 8) others && list_all (λ e. is_cut e || is_one others e) es

each_among : (others es : List Text) → are_among others es ≡ true
    → AreShort others × AllByRecursion (λ e. is_cut e ≡ false → Contains others e) es
each_among others es y =
    let parts = and_parts (list_all (λ e. nat_le (length e) 8) others) (list_all (λ e. is_cut e || is_one others e) es) y in (
      each_shown (λ e. nat_le (length e) 8) (λ e. length e ≤ 8) (λ e short. grind (arith, nat_tests)) others parts.0,
      each_shown (λ e. is_cut e || is_one others e) (λ e. is_cut e ≡ false → Contains others e)
          (λ e one u. one_of others e (rw u at one)) es parts.1,
    )

-- the completion of t in one language also completes u in another, if it is in the other list of
-- completions and its result there is in the other language
moves : {m : Measure} {Is Other : Text → Type 0} {completions others : List Text} {t u rest : Text}
    (g : IsCompletedBy m Is completions t rest) → (Contains completions g.more → Contains others g.more)
    → (Is (t ++ g.more) → Other (u ++ g.more)) → IsCompletedBy m Other others u rest
moves g among to = record { more = g.more; completion = among g.completion; is = to g.is; short = g.short; uncut = g.uncut }

says : {m : Measure} {Is Other : Text → Type 0} {completions : List Text} {t u rest : Text} (g : IsCompletedBy m Is completions t rest)
    → (Is (t ++ g.more) → Other (u ++ g.more)) → IsCompletedBy m Other completions u rest
says g to = moves g (λ one. one) to

-- a completion for a rest is also one for a longer rest
longer : {m : Measure} {Is : Text → Type 0} {completions : List Text} {t rest : Text} (r y : Text)
    → IsCompletedBy m Is completions t r → rest ≡ r ++ y → IsCompletedBy m Is completions t rest
longer {m = m} {rest = rest} r y g e = record {
  more = g.more;
  completion = g.completion;
  is = g.is;
  short = omega (arith, g.short, ap (size m) e ∙ size_append m r y);
  uncut = λ u. g.uncut (cut_prefix r y rest e u);
}

-- ---- one language

module _ {m : Measure} {Is : Text → Type 0} {least : Text} {completions : List Text} (w : CompletesBy m Is least completions) where
  -- together with `least`, the completions complete each prefix, also the empty one
  pub goes_all : (t rest : Text) → Is (t ++ rest) → IsCompletedBy m Is (least ∷ completions) t rest
  goes_all [] rest is = record {
    more = least;
    completion = (0, omega arith, refl);
    is = w.contains;
    short = w.least_short rest is;
    uncut = λ u. w.least_uncut;
  }
  goes_all (b ∷ t) rest is = moves (w.goes b t rest is) (Contains-append_right (least ∷ []) completions _) (λ i. i)

  -- each prefix, of any bytes, is completed by one of `others`, if all completions are among them
  pub bytes_go_on : (others : List Text) → list_all (is_one others) (least ∷ completions) ≡ true → (t rest : Text) → Is (t ++ rest)
      → GoesOn Is others t
  bytes_go_on others among t rest is =
      let g = goes_all t rest is in
      let e = all_among others (least ∷ completions) among g.more g.completion in
      (e.0, g.more, e.1, e.2, g.is)

  -- each prefix that is UTF-8 is completed by one of `others`, if the completions that don't begin
  -- within a character are among them
  pub are_completions : (others : List Text) → AllByRecursion (AllByRecursion (λ b. b < 128)) others
      → are_among others (least ∷ completions) ≡ true → AreCompletions Is others
  are_completions others ascii among = record {
    ascii = ascii;
    short = (each_among others (least ∷ completions) among).0;
    some = let e = is_among least (0, omega arith, refl) (w.least_uncut) in (e.0, least, e.1, e.2, w.contains);
    complete = λ t rest utf8 more is. let g = goes_all t rest is in
        let e = is_among g.more g.completion (g.uncut (utf8_uncut rest more)) in (e.0, g.more, e.1, e.2, g.is);
  }
    where
      is_among : (e : Text) → Contains (least ∷ completions) e → is_cut e ≡ false → Contains others e
      is_among e in_all = All-contains (λ x. is_cut x ≡ false → Contains others x) (least ∷ completions) e
          (All-from_recursion (λ x. is_cut x ≡ false
          → Contains others x) (least ∷ completions) (each_among others (least ∷ completions) among).1) in_all

  -- the completions may be replaced by a list that contains them
  pub among : (others : List Text) → list_all (is_one others) completions ≡ true → CompletesBy m Is least others
  among others y = record {
    contains = w.contains;
    utf8 = w.utf8;
    least_short = w.least_short;
    least_uncut = w.least_uncut;
    goes = λ b t rest is. moves (w.goes b t rest is) (all_among others completions y _) (λ i. i);
  }

  -- the language may be replaced by another definition of the same texts
  pub same : (Other : Text → Type 0) → ((t : Text) → Is t → Other t) → ((t : Text) → Other t → Is t) → CompletesBy m Other least completions
  same Other to from = record {
    contains = to least w.contains;
    utf8 = λ t is. w.utf8 t (from t is);
    least_short = λ t is. w.least_short t (from t is);
    least_uncut = w.least_uncut;
    goes = λ b t rest is. says (w.goes b t rest (from (b ∷ t ++ rest) is)) (to _);
  }

  -- the texts of the language whose length is at most n have the same completions
  pub limited : (n : ℕ) → size m least ≤ n → CompletesBy m (λ t. Is t × (size m t ≤ n)) least completions
  limited n small = record {
    contains = (w.contains, small);
    utf8 = λ t is. w.utf8 t is.0;
    least_short = λ t is. w.least_short t is.0;
    least_uncut = w.least_uncut;
    goes = λ b t rest is. let g = w.goes b t rest is.0 in
        says g (λ i. (i, omega (arith, is.1, g.short, size_append m (b ∷ t) g.more, size_append m (b ∷ t) rest)));
  }

  -- the language with the empty text has the same completions
  pub optional : CompletesBy m (λ t. (t ≡ []) ⊎ Is t) [] completions
  optional = record {
    contains = inl refl;
    utf8 = λ t is. elim is [ inl e ↦ subst (IsMeasured m) (sym e) (measured_nothing m) | inr i ↦ w.utf8 t i ];
    least_short = λ t is. omega (arith, size_nothing m);
    least_uncut = refl;
    goes = λ b t rest is. elim is [
      | inl e ↦ absurd (cc)
      | inr i ↦ says (w.goes b t rest i) (λ x. inr x)
    ];
  }

-- the union of two languages
pub choice : {m : Measure} {A B : Text → Type 0} {a b : Text} {ea eb : List Text} → CompletesBy m A a ea → CompletesBy m B b eb
    → size m a ≤ size m b
    → CompletesBy m (λ t. A t ⊎ B t) a (ea ++ eb)
choice {m} {A} {B} {a} {b} {ea} {eb} v w less = record {
  contains = inl v.contains;
  utf8 = λ t is. elim is [ inl i ↦ v.utf8 t i | inr i ↦ w.utf8 t i ];
  least_short = λ t is. elim is [
    | inl i ↦ v.least_short t i
    | inr i ↦ omega (arith, less, w.least_short t i)
  ];
  least_uncut = v.least_uncut;
  goes = λ c t rest is. elim is [
    | inl i ↦ moves (v.goes c t rest i) (Contains-append_left ea eb _) (λ x. inl x)
    | inr i ↦ moves (w.goes c t rest i) (Contains-append_right ea eb _) (λ x. inr x)
  ];
}

-- the union of any number of languages
pub any : {m : Measure} {I : Type 0} (L : I → Text → Type 0) (least : I → Text) (completions : I → List Text) (all : List Text)
    → ((i : I) → CompletesBy m (L i) (least i) (completions i)) → ((i : I) → list_all (is_one all) (completions i) ≡ true)
    → (j : I) → ((i : I) → size m (least j) ≤ size m (least i)) → CompletesBy m (λ t. (i : I) × L i t) (least j) all
any L least completions all w among j less = record {
  contains = (j, (w j).contains);
  utf8 = λ t is. (w is.0).utf8 t is.1;
  least_short = λ t is. omega (arith, less is.0, (w is.0).least_short t is.1);
  least_uncut = (w j).least_uncut;
  goes = λ b t rest is.
      moves ((w is.0).goes b t rest is.1) (all_among all (completions is.0) (among is.0) _) (λ i. (is.0, i));
}

-- ---- one byte

measured_byte : (m : Measure) (b : ℕ) → b < 128 → IsMeasured m (b ∷ [])
measured_byte in_characters b small = IsUtf8-from_ascii (b ∷ []) (IsAscii-cons b [] small IsAscii-nil)
measured_byte in_bytes b small = tt

ascii_uncut : (b : ℕ) → b < 128 → goes_on b ≡ false
ascii_uncut b small = grind (arith, nat_tests)

pub byte_by : (m : Measure) (b : ℕ) → b < 128 → CompletesBy m (λ t. t ≡ b ∷ []) (b ∷ []) ([] ∷ [])
byte_by m b small = record {
  contains = refl;
  utf8 = λ t e. subst (IsMeasured m) (sym e) (measured_byte m b small);
  least_short = λ t e. omega (arith, ap (size m) e);
  least_uncut = ascii_uncut b small;
  goes = goes;
}
  where
    goes : (c : ℕ) (t rest : Text) → c ∷ t ++ rest ≡ b ∷ [] → IsCompletedBy m (λ t. t ≡ b ∷ []) ([] ∷ []) (c ∷ t) rest
    goes c [] rest e = record {
      more = [];
      completion = (0, omega arith, refl);
      is = cc;
      short = omega (arith, size_nothing m);
      uncut = λ u. refl;
    }
    goes c (d ∷ t) rest e = absurd (let tails : d ∷ (t ++ rest) ≡ [] = cc in cc)

pub byte : (b : ℕ) → b < 128 → Completes (λ t. t ≡ b ∷ []) (b ∷ []) ([] ∷ [])
byte = byte_by in_characters

-- ---- a text of one language, and then one of another

pub record Seq (A B : Text → Type 0) (t : Text) : Type 0 where
  pub first : Text
  pub second : Text
  pub in_first : A first
  pub in_second : B second
  pub whole : t ≡ first ++ second

pub both : {A B : Text → Type 0} (x y : Text) → A x → B y → Seq A B (x ++ y)
both x y a b = record { first = x; second = y; in_first = a; in_second = b; whole = refl }

-- the same if both languages depend on a value f, which is the same for both texts
module _ {F : Type 0} (A B : F → Text → Type 0) where
  abbrev pub Dependent : Text → Type 0
  Dependent t = (f : F) × Seq (A f) (B f) t

  module _ {m : Measure} {a b : Text} {ea eb : List Text} (v : CompletesBy m (λ t. (f : F) × A f t) a ea) (w : (f : F)
      → CompletesBy m (B f) b eb) where
    dependent_goes : (c : ℕ) (t rest : Text) → Dependent (c ∷ t ++ rest)
        → IsCompletedBy m Dependent (map (λ x. x ++ b) ea ++ eb) (c ∷ t) rest
    dependent_goes c t rest (f, is) = elim (cut_at is.first is.second (c ∷ t) rest is.whole) [
      | inl (r, x_is, rest_is) ↦ (let g = v.goes c t r (f, subst (A f) x_is is.in_first) in record {
        more = g.more ++ b;
        completion = Contains-append_left _ eb _ (contains_mapped (λ x. x ++ b) ea g.more g.completion);
        is = (
          g.is.0,
          record {
            first = c ∷ t ++ g.more;
            second = b;
            in_first = g.is.1;
            in_second = (w g.is.0).contains;
            whole = sym (append_assoc (c ∷ t) g.more b);
          },
        );
        short = omega (
          arith,
          g.short,
          (w f).least_short is.second is.in_second,
          size_append m g.more b,
          ap (size m) rest_is ∙ size_append m r is.second,
        );
        uncut = λ u. append_uncut g.more b (g.uncut (cut_prefix r is.second rest rest_is u)) (w f).least_uncut;
      })
      | inr (d, s, t_is, y_is) ↦ (let g = (w f).goes d s rest (subst (B f) y_is is.in_second) in
          moves g (Contains-append_right (map (λ x. x ++ b) ea) eb _) (λ i. (
            f,
            record {
              first = is.first;
              second = d ∷ s ++ g.more;
              in_first = is.in_first;
              in_second = i;
              whole = ap (λ x. x ++ g.more) t_is ∙ append_assoc is.first (d ∷ s) g.more;
            },
          )))
    ]

    pub dependent : CompletesBy m Dependent (a ++ b) (map (λ x. x ++ b) ea ++ eb)
    dependent = record {
      contains = (v.contains.0, both a b v.contains.1 (w v.contains.0).contains);
      utf8 = λ t (f, is). subst (IsMeasured m) (sym is.whole)
          (measured_append m is.first is.second (v.utf8 is.first (f, is.in_first)) ((w f).utf8 is.second is.in_second));
      least_short = λ t (f, is). omega (
        arith,
        v.least_short is.first (f, is.in_first),
        (w f).least_short is.second is.in_second,
        size_append m a b,
        ap (size m) is.whole ∙ size_append m is.first is.second,
      );
      least_uncut = append_uncut a b v.least_uncut (w v.contains.0).least_uncut;
      goes = dependent_goes;
    }

pub seq : {m : Measure} {A B : Text → Type 0} {a b : Text} {ea eb : List Text} → CompletesBy m A a ea → CompletesBy m B b eb
    → CompletesBy m (Seq A B) (a ++ b) (map (λ m. m ++ b) ea ++ eb)
seq {A = A} {B = B} v w =
    same (dependent (λ (x : Unit {0}). A) (λ x. B) (same v (λ t. Unit {0} × A t) (λ t i. (tt, i)) (λ t i. i.1)) (λ x. w)) (Seq A B)
    (λ t i. i.1) (λ t i. (tt, i))

-- ---- any number of texts of a language, and at most n of them

pub record Many (P : Text → Type 0) (t : Text) : Type 0 where
  pub texts : List Text
  pub each : AllByRecursion P texts
  pub whole : t ≡ concat texts

pub record AtMost (n : ℕ) (P : Text → Type 0) (t : Text) : Type 0 where
  pub many : Many P t
  pub few : length many.texts ≤ n

module _ {m : Measure} {P : Text → Type 0} {least : Text} {completions : List Text} (w : CompletesBy m P least completions) where
  many_goes : (xs : List Text) → AllByRecursion P xs → (b : ℕ) (t rest : Text) → b ∷ t ++ rest ≡ concat xs
      → IsCompletedBy m (AtMost (length xs) P) completions (b ∷ t) rest
  many_goes [] all b t rest e = absurd (cc)
  many_goes (x ∷ xs) all b t rest e = elim (cut_at x (concat xs) (b ∷ t) rest e) [
    | inl (r, x_is, rest_is) ↦ longer r (concat xs) (says (w.goes b t r (subst P x_is all.0)) (λ i. record {
      many = record { texts = _ ∷ []; each = (i, tt); whole = sym (append-nil _) };
      few = omega arith;
    })) rest_is
    | inr (c, m, t_is, y_is) ↦ (let g = many_goes xs all.1 c m rest (sym y_is) in says g (λ i. record {
      many = record {
        texts = x ∷ i.many.texts;
        each = (all.0, i.many.each);
        whole = ap (λ s. s ++ g.more) t_is ∙ append_assoc x (c ∷ m) g.more ∙ ap (λ s. x ++ s) i.many.whole;
      };
      few = omega (arith, i.few);
    }))
  ]

  all_utf8 : (xs : List Text) → AllByRecursion P xs → IsMeasured m (concat xs)
  all_utf8 [] all = (measured_nothing m)
  all_utf8 (x ∷ xs) all = measured_append m x (concat xs) (w.utf8 x all.0) (all_utf8 xs all.1)

  abbrev none : Many P []
  none = record { texts = []; each = tt; whole = refl }

  many_utf8 : (t : Text) → Many P t → IsMeasured m t
  many_utf8 t is = subst (IsMeasured m) (sym is.whole) (all_utf8 is.texts is.each)

  pub many : CompletesBy m (Many P) [] completions
  many = record {
    contains = none;
    utf8 = many_utf8;
    least_short = λ t is. omega (arith, size_nothing m);
    least_uncut = refl;
    goes = λ b t rest is. says (many_goes is.texts is.each b t rest is.whole) (λ i. i.many);
  }

  pub at_most : (n : ℕ) → CompletesBy m (AtMost n P) [] completions
  at_most n = record {
    contains = record { many = none; few = omega arith };
    utf8 = λ t is. many_utf8 t is.many;
    least_short = λ t is. omega (arith, size_nothing m);
    least_uncut = refl;
    goes = λ b t rest is. says (many_goes is.many.texts is.many.each b t rest is.many.whole)
        (λ i. record { many = i.many; few = omega (arith, i.few, is.few) });
  }

-- ---- one or more texts of a language, joined by a byte

pub record Joined (between : ℕ) (P : Text → Type 0) (t : Text) : Type 0 where
  pub first : Text
  pub others : List Text
  pub each : AllByRecursion P (first ∷ others)
  pub whole : t ≡ join_with_byte between (first ∷ others)

module _ (between : ℕ) (small : between < 128) {m : Measure} {P : Text
    → Type 0} {least : Text} {completions : List Text} (w : CompletesBy m P least completions) where
  -- a prefix of the first text
  first_goes : (t rest : Text) → P (t ++ rest) → IsCompletedBy m (Joined between P) (least ∷ completions) t rest
  first_goes t rest is = says (goes_all w t rest is) (λ i. record { first = _; others = []; each = (i, tt); whole = refl })

  joined_goes : (x : Text) (xs : List Text) → AllByRecursion P (x ∷ xs) → (t rest : Text)
      → t ++ rest ≡ join_with_byte between (x ∷ xs) → IsCompletedBy m (Joined between P) (least ∷ completions) t rest
  joined_goes x [] all t rest e = first_goes t rest (subst P (sym e) all.0)
  joined_goes x (y ∷ ys) all t rest e = elim (cut_at x (between ∷ join_with_byte between (y ∷ ys)) t rest e) [
    | inl (r, x_is, rest_is) ↦ longer r (between ∷ join_with_byte between (y ∷ ys)) (first_goes t r (subst P x_is all.0)) rest_is
    | inr (c, m, t_is, y_is) ↦ (
        let tails : join_with_byte between (y ∷ ys) ≡ m ++ rest = cc in
        let head : between ≡ c = cc in
        let g = joined_goes y ys all.1 m rest (sym tails) in says g (λ o. record {
          first = x;
          others = o.first ∷ o.others;
          each = (all.0, o.each);
          whole = ap (λ s. s ++ g.more) t_is ∙ append_assoc x (c ∷ m) g.more ∙ (λ i. x ++ (sym head i ∷ o.whole i));
        }))
  ]

  pub joined : CompletesBy m (Joined between P) least (least ∷ completions)
  joined = record {
    contains = record { first = least; others = []; each = (w.contains, tt); whole = refl };
    utf8 = λ t is. subst (IsMeasured m) (sym is.whole) (joined_utf8 is.first is.others is.each);
    least_short = λ t is. omega (arith, w.least_short is.first is.each.0, ap (size m) is.whole, first_short is.first is.others);
    least_uncut = w.least_uncut;
    goes = λ b t rest is. joined_goes is.first is.others is.each (b ∷ t) rest is.whole;
  }
    where
      joined_utf8 : (x : Text) (xs : List Text) → AllByRecursion P (x ∷ xs) → IsMeasured m (join_with_byte between (x ∷ xs))
      joined_utf8 x [] all = w.utf8 x all.0
      joined_utf8 x (y ∷ ys) all = measured_append m x (between ∷ join_with_byte between (y ∷ ys)) (w.utf8 x all.0)
          (measured_append m (between ∷ []) (join_with_byte between (y ∷ ys)) (measured_byte m between small) (joined_utf8 y ys all.1))

      first_short : (x : Text) (xs : List Text) → size m x ≤ size m (join_with_byte between (x ∷ xs))
      first_short x [] = omega arith
      first_short x (y ∷ ys) = omega (arith, size_append m x (between ∷ join_with_byte between (y ∷ ys)))

-- ---- one or more texts of a language, separated by texts of another

abbrev pub Separated : (Text → Type 0) → (Text → Type 0) → Text → Type 0
Separated S P = Seq P (Many (Seq S P))

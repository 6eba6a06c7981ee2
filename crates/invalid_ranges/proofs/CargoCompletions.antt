-- Each prefix of a requirement can be completed by one of a few texts.
use Rattle.std.proofs.Common.{◌≡◌, ℕ, ◌≤◌, ◌⊎◌, inl, inr, Bool, true, false, List, [], ◌∷◌, ◌++◌, codes, length, refl, sym, ap, ◌∙◌, arith}
use Rattle.std.proofs.Common.{append-nil, append_assoc, rules, subst}
use Rattle.std.specs.Prelude.{◌&&◌, ◌||◌, ◌==◌, map, not, take_while}
use Rattle.std.specs.Str.Parse.{digits_value}
use Rattle.std.specs.List.{AllByRecursion, concat, list_all, list_any}
use Rattle.std.proofs.lemmas.Bool.{and_parts, and_from, or_right}
use Rattle.std.proofs.lemmas.Bool.Decides.{nat_tests}
use Rattle.semver_texts.specs.Texts.{Text, has_no_leading_zero, is_empty, is_number, marked}
use Rattle.semver_texts.specs.declared.grammar.Grammar.TheVariants.{Cargo}
use Rattle.semver_texts.proofs.Lists.{by_test}
use Rattle.semver_ranges.specs.Partials.{stated, states_nothing}
use Rattle.semver_ranges.specs.declared.operator.Operator.{Operator}
use Rattle.semver_ranges.specs.declared.operator.Operator.TheVariants.{Bare, Equal, Less, LessOrEqual, Greater, GreaterOrEqual, Tilde}
use Rattle.semver_ranges.specs.declared.operator.Operator.TheVariants.{Caret, Hyphen}
use Rattle.semver_ranges.specs.RangeTree.{is_bare, is_of_term, AreBlanks, PartialTree, one, two, three, SetTree, Simple, SpellsPartial}
use Rattle.semver_ranges.specs.RangeTree.{simples, is_component, is_wildcard}
use Rattle.invalid_strings.proofs.Completions.{CompletesBy, AtMost, Seq, among, both, byte_by, choice, in_bytes, optional, same, seq}
use Rattle.invalid_strings.proofs.Completions as prefixes
use Rattle.invalid_strings.proofs.Cores.{Marked, marked_from, marked_to}
use Rattle.invalid_strings.proofs.Leaves.{IsBuild, IsPre}
use Rattle.invalid_strings.proofs.VersionPrefixes.{all_true, parts_from, parts_to}
use Rattle.semver_ranges.specs.CargoGrammar.{SpellsComparator, SpellsComparators, SpellsRequirement}
use Rattle.semver_ranges.specs.CargoGrammar.{is_accepted, is_of_cargo, is_every, is_one, is_partial_of_cargo, stands_alone, wildcards_are_last}
use Rattle.semver_ranges.specs.OperatorTable.{sign}
use Rattle.invalid_ranges.proofs.RangeLeaves.{blanks, blanks_append, closed, nothing, number_prefix, part, wildcard_prefix}
use Rattle.invalid_ranges.proofs.PartialCompletions.{Partial, build_mark, cases, components_of_three, one_text, partial, pre_mark, spelled_one}
use Rattle.invalid_ranges.proofs.PartialCompletions.{spelled_three, spelled_two, three_is, three_text, two_text}
use Rattle.invalid_ranges.proofs.WordCompletions.{build, no_digits}

-- ---- partial versions that state a number

abbrev IsNumber : Text → Type 0
IsNumber t = is_number t ≡ true

abbrev IsWild : Text → Type 0
IsWild t = is_wildcard t ≡ true

abbrev IsNothing : Text → Type 0
IsNothing t = t ≡ []

some_wild : (t : Text) → IsWild t → 1 ≤ length t
some_wild [] is = cc
some_wild (b ∷ t) is = omega arith

some_number : (t : Text) → IsNumber t → 1 ≤ length t
some_number [] is = cc
some_number (b ∷ t) is = omega arith

number : CompletesBy in_bytes IsNumber (codes "0") ([] ∷ [])
number = closed IsNumber (codes "0") refl refl some_number number_prefix

wild : CompletesBy in_bytes IsWild (codes "*") ([] ∷ [])
wild = closed IsWild (codes "*") refl refl some_wild wildcard_prefix

not_wild : (t : Text) → IsNumber t → is_wildcard t ≡ false
not_wild [] is = cc
not_wild (b ∷ []) is = grind (arith, nat_tests)
not_wild (b ∷ c ∷ t) is = refl

number_is : (t : Text) → is_component t ≡ true → is_wildcard t ≡ false → IsNumber t
number_is t e n = rw n at e

of_number : (t : Text) → IsNumber t → is_component t ≡ true
of_number t e = or_right (is_wildcard t) (is_number t) e

of_wild : (t : Text) → IsWild t → is_component t ≡ true
of_wild t e = rw e refl

abbrev Marks : Text → Type 0
Marks = Seq (Marked 45 IsPre) (Marked 43 IsBuild)

abbrev Numbers : Text → Type 0
Numbers = Partial IsNumber IsNumber IsNumber Marks

abbrev WildPatch : Text → Type 0
WildPatch = Partial IsNumber IsNumber IsWild IsNothing

abbrev WildMinor : Text → Type 0
WildMinor = Partial IsNumber IsWild IsWild IsNothing

-- the text of a partial version that Cargo accepts and that states a number
abbrev IsStated : PartialTree → Text → Type 0
IsStated p t = SpellsPartial p t × (is_partial_of_cargo p ≡ true) × (states_nothing p ≡ false)

abbrev IsStatedText : Text → Type 0
IsStatedText t = (p : PartialTree) × IsStated p t

-- components state no number if and only if the first one is a wildcard
abbrev states_none : List Text → Bool
states_none cs = is_empty (map (digits_value 10) (take_while (λ c. not (is_wildcard c)) cs))

none_stated : (a : Text) (cs : List Text) → states_none (a ∷ cs) ≡ is_wildcard a
none_stated a cs = search rules

some_stated : (a : Text) (cs : List Text) → IsNumber a → states_none (a ∷ cs) ≡ false
some_stated a cs e = none_stated a cs ∙ not_wild a e

numbers_from : (t : Text) → Numbers t → IsStatedText t
numbers_from t w = elim (cases IsNumber IsNumber IsNumber Marks t w) [
  | inl o ↦ (one t, (spelled_one t (of_number t o.is), rw (not_wild t o.is) refl, some_stated t [] o.is))
  | inr v ↦ elim v [
    | inl o ↦ (
      two o.a o.b,
      (
        subst (SpellsPartial (two o.a o.b)) (sym o.whole) (spelled_two o.a o.b (of_number o.a o.in_a) (of_number o.b o.in_b)),
        rw (not_wild o.a o.in_a, not_wild o.b o.in_b) refl,
        some_stated o.a (o.b ∷ []) o.in_a,
      ),
    )
    | inr o ↦ (
        let pre = marked_from 45 IsPre o.in_m.first o.in_m.in_first in
        let build = marked_from 43 IsBuild o.in_m.second o.in_m.in_second in
        let pre_parts = parts_from has_no_leading_zero pre.texts pre.each in
        let build_parts = parts_from (λ t. true) build.texts build.each in (
          three o.a o.b o.c pre.texts build.texts,
          (
            subst (SpellsPartial (three o.a o.b o.c pre.texts build.texts)) (sym o.whole)
                (spelled_three o.a o.b o.c o.m pre.texts build.texts (of_number o.a o.in_a) (of_number o.b o.in_b) (of_number o.c o.in_c)
                pre_parts.0 build_parts.0 (o.in_m.whole ∙ (λ i. pre.whole i ++ build.whole i))),
            rw (not_wild o.a o.in_a, not_wild o.b o.in_b, not_wild o.c o.in_c, pre_parts.1) (and_from _ _ (or_right _ _ refl) refl),
            some_stated o.a (o.b ∷ o.c ∷ []) o.in_a,
          ),
        ))
  ]
]

-- partial versions that end in wildcards
module _ (B C : Text → Type 0) (of_b : (t : Text) → B t → is_component t ≡ true) (of_c : (t : Text) → C t → is_component t ≡ true)
    (two_read : (a b : Text) → IsNumber a → B b → is_partial_of_cargo (two a b) ≡ true)
    (three_read : (a b c : Text) → IsNumber a → B b → C c → is_partial_of_cargo (three a b c [] []) ≡ true) where
  wild_from : (t : Text) → Partial IsNumber B C IsNothing t → IsStatedText t
  wild_from t w = elim (cases IsNumber B C IsNothing t w) [
    | inl o ↦ (one t, (spelled_one t (of_number t o.is), rw (not_wild t o.is) refl, some_stated t [] o.is))
    | inr v ↦ elim v [
      | inl o ↦ (
        two o.a o.b,
        (
          subst (SpellsPartial (two o.a o.b)) (sym o.whole) (spelled_two o.a o.b (of_number o.a o.in_a) (of_b o.b o.in_b)),
          two_read o.a o.b o.in_a o.in_b,
          some_stated o.a (o.b ∷ []) o.in_a,
        ),
      )
      | inr o ↦ (
        three o.a o.b o.c [] [],
        (
          subst (SpellsPartial (three o.a o.b o.c [] [])) (sym o.whole)
              (spelled_three o.a o.b o.c o.m [] [] (of_number o.a o.in_a) (of_b o.b o.in_b) (of_c o.c o.in_c) refl refl o.in_m),
          three_read o.a o.b o.c o.in_a o.in_b o.in_c,
          some_stated o.a (o.b ∷ o.c ∷ []) o.in_a,
        ),
      )
    ]
  ]

patch_from : (t : Text) → WildPatch t → IsStatedText t
patch_from = wild_from IsNumber IsWild of_number of_wild (λ a b x y. rw (not_wild a x, not_wild b y) refl)
    (λ a b c x y z. rw (not_wild a x, not_wild b y, z) refl)

minor_from : (t : Text) → WildMinor t → IsStatedText t
minor_from = wild_from IsWild IsWild of_wild of_wild (λ a b x y. rw (not_wild a x, y) refl) (λ a b c x y z. rw (not_wild a x, y, z) refl)

abbrev Stated : Text → Type 0
Stated t = Numbers t ⊎ (WildPatch t ⊎ WildMinor t)

stated_from : (t : Text) → Stated t → IsStatedText t
stated_from t (inl w) = numbers_from t w
stated_from t (inr (inl w)) = patch_from t w
stated_from t (inr (inr w)) = minor_from t w

-- if components state a number, the first one is a number
first_number : (a : Text) (cs : List Text) → is_component a ≡ true → states_none (a ∷ cs) ≡ false → IsNumber a
first_number a cs e n = number_is a e (sym (none_stated a cs) ∙ n)

nothing_in : (t : Text) → is_empty t ≡ true → t ≡ []
nothing_in [] e = refl
nothing_in (b ∷ t) e = cc

or_second : (x y : Bool) → y ≡ false → (x || y) ≡ true → x ≡ true
or_second true y n e = refl
or_second false y n e = absurd (cc)

-- with a wildcard among three components, fewer than three numbers are stated
one_number : (a b c : Text) (pre build : List Text) → is_wildcard a ≡ false → is_wildcard b ≡ true
    → (length (stated (three a b c pre build)) == 3) ≡ false
one_number a b c pre build x y = rw (x, y) refl

two_numbers : (a b c : Text) (pre build : List Text) → is_wildcard a ≡ false → is_wildcard b ≡ false → is_wildcard c ≡ true
    → (length (stated (three a b c pre build)) == 3) ≡ false
two_numbers a b c pre build x y z = rw (x, y, z) refl

wild_last : (a b c : Text) → is_wildcard a ≡ false → is_wildcard b ≡ true → wildcards_are_last (a ∷ b ∷ c ∷ []) ≡ true → IsWild c
wild_last a b c x y e = let h : (is_wildcard c && true) ≡ true = rw (x, y) at e in (and_parts (is_wildcard c) true h).0

module _ (a b c : Text) (pre build : List Text) (t : Text) (w : IsStated (three a b c pre build) t) where
  three_to : Stated t
  three_to =
      let e = components_of_three a b c w.0.0 in
      let a_is = first_number a (b ∷ c ∷ []) e.0 w.2 in
      let text = three_is a b c pre build t w.0 in
      let m = marked (45 ∷ []) pre ++ marked (43 ∷ []) build in
      let first = and_parts (wildcards_are_last (a ∷ b ∷ c ∷ []))
      ((is_empty m || (length (stated (three a b c pre build)) == 3)) && list_all has_no_leading_zero pre) w.1 in
      let second = and_parts (is_empty m || (length (stated (three a b c pre build)) == 3)) (list_all has_no_leading_zero pre) first.1 in
      by_test (is_wildcard b)
      (λ y. inr (inr (subst WildMinor (sym text) (three_text IsNumber IsWild IsWild IsNothing a b c m a_is y
      (wild_last a b c (not_wild a a_is) y first.0)
      (nothing_in m (or_second (is_empty m) _ (one_number a b c pre build (not_wild a a_is) y) second.0))))))
      (λ n. by_test (is_wildcard c)
      (λ y. inr (inl (subst WildPatch (sym text) (three_text IsNumber IsNumber IsWild IsNothing a b c m a_is (number_is b e.1 n) y
      (nothing_in m (or_second (is_empty m) _ (two_numbers a b c pre build (not_wild a a_is) n y) second.0))))))
      (λ k. inl (subst Numbers (sym text) (three_text IsNumber IsNumber IsNumber Marks a b c m a_is (number_is b e.1 n) (number_is c e.2 k)
      (both (marked (45 ∷ []) pre) (marked (43 ∷ []) build) (marked_to 45 IsPre pre (parts_to has_no_leading_zero pre w.0.1.0 second.1))
      (marked_to 43 IsBuild build (parts_to (λ t. true) build w.0.1.1 (all_true build))))))))

stated_to : (t : Text) → IsStatedText t → Stated t
stated_to t (one a, (spelled, read, some)) =
    inl (subst Numbers (sym (spelled.2 ∙ append-nil a)) (one_text IsNumber IsNumber IsNumber Marks a
    (first_number a [] (and_parts (is_component a) true spelled.0).0 some)))
stated_to t (two a b, (spelled, read, some)) =
    let first = and_parts (is_component a) (is_component b && true) spelled.0 in
    let second = and_parts (is_component b) true first.1 in
    let text = spelled.2 ∙ append-nil (a ++ (46 ∷ b)) in
    let a_is = first_number a (b ∷ []) first.0 some in
    by_test (is_wildcard b)
    (λ y. inr (inr (subst WildMinor (sym text) (two_text IsNumber IsWild IsWild IsNothing a b a_is y))))
    (λ n. inl (subst Numbers (sym text) (two_text IsNumber IsNumber IsNumber Marks a b a_is (number_is b second.0 n))))
stated_to t (three a b c pre build, w) = three_to a b c pre build t w

abbrev pub stated_completions : List Text
stated_completions = codes "" ∷ codes "*" ∷ codes "a" ∷ codes "0" ∷ []

stated_partial : CompletesBy in_bytes IsStatedText (codes "0") stated_completions
stated_partial =
    let pre = pre_mark (part has_no_leading_zero refl (λ x c rest e. rw (no_digits x) refl)) in
    let marks = seq (optional pre) (optional (build_mark build)) in
    let numbers = partial number number number marks in
    let patch = partial number number wild nothing in
    let minor = partial number wild wild nothing in
    let all = choice numbers (choice patch minor (omega arith)) (omega arith) in
    among (same all IsStatedText stated_from stated_to) stated_completions refl

-- ---- signs

abbrev IsSignText : Text → Type 0
IsSignText t = (f : Operator) × (t ≡ sign f) × (is_of_term f ≡ true)

one_byte : (f : Operator) (s b : ℕ) (m r : Text) → is_of_term f ≡ true → sign f ≡ s ∷ [] → (b ∷ m) ++ r ≡ s ∷ [] → IsSignText (b ∷ m)
one_byte f s b [] r term is e = (f, (let h : b ≡ s = cc in ap (λ x. x ∷ []) h) ∙ sym is, term)
one_byte f s b (c ∷ m) r term is e = absurd (cc)

two_bytes : (f g : Operator) (s t b : ℕ) (m r : Text) → is_of_term f ≡ true → is_of_term g ≡ true → sign f ≡ s ∷ t ∷ [] → sign g ≡ s ∷ [] → (b ∷ m) ++ r ≡ s ∷ t ∷ [] → IsSignText (b ∷ m)
two_bytes f g s t b [] r term term' is is' e = (g, (let h : b ≡ s = cc in ap (λ x. x ∷ []) h) ∙ sym is', term')
two_bytes f g s t b (c ∷ []) r term term' is is' e = (f, (let h : b ≡ s = cc in let k : c ≡ t = cc in λ i. h i ∷ k i ∷ []) ∙ sym is, term)
two_bytes f g s t b (c ∷ d ∷ m) r term term' is is' e = absurd (cc)

sign_prefix : (b : ℕ) (t rest : Text) → IsSignText (b ∷ t ++ rest) → IsSignText (b ∷ t)
sign_prefix b t rest (Bare, e, term) = absurd (cc)
sign_prefix b t rest (Hyphen, e, term) = absurd (cc)
sign_prefix b t rest (LessOrEqual, e, term) = two_bytes LessOrEqual Less 60 61 b t rest refl refl refl refl e
sign_prefix b t rest (GreaterOrEqual, e, term) = two_bytes GreaterOrEqual Greater 62 61 b t rest refl refl refl refl e
sign_prefix b t rest (Equal, e, term) = one_byte Equal 61 b t rest refl refl e
sign_prefix b t rest (Less, e, term) = one_byte Less 60 b t rest refl refl e
sign_prefix b t rest (Greater, e, term) = one_byte Greater 62 b t rest refl refl e
sign_prefix b t rest (Tilde, e, term) = one_byte Tilde 126 b t rest refl refl e
sign_prefix b t rest (Caret, e, term) = one_byte Caret 94 b t rest refl refl e

signs : CompletesBy in_bytes IsSignText [] ([] ∷ [])
signs = closed IsSignText [] (Bare, refl, refl) refl (λ t is. omega arith) sign_prefix

-- ---- comparators that state a number, and the wildcard that matches every release

abbrev IsStatedComparator : Text → Type 0
IsStatedComparator t = (s : Simple) × SpellsComparator s t × (states_nothing s.partial ≡ false)

abbrev Comparator : Text → Type 0
Comparator = Seq (AreBlanks Cargo) (Seq IsSignText (Seq (AreBlanks Cargo) (Seq IsStatedText (AreBlanks Cargo))))

stated_read : (s : Simple) → is_of_term s.operator ≡ true → is_partial_of_cargo s.partial ≡ true → states_nothing s.partial ≡ false
    → is_of_cargo s ≡ true
stated_read s term e n = and_from (is_of_term s.operator) (is_accepted s) term
    (and_from (is_partial_of_cargo s.partial) (is_every s || not (states_nothing s.partial)) e
    (or_right (is_every s) (not (states_nothing s.partial)) (rw n refl)))

comparator_from : (t : Text) → Comparator t → IsStatedComparator t
comparator_from t w =
    let signed = w.in_second in
    let gap = signed.in_second in
    let word = gap.in_second in
    let p = word.in_first in
    let s : Simple = record { operator = signed.in_first.0; partial = p.0 } in (
      s,
      record {
        before = w.first;
        gap = gap.first;
        word = word.first;
        after = word.second;
        before_is = w.in_first;
        gap_is = gap.in_first;
        after_is = word.in_second;
        partial = p.1.0;
        is_read = stated_read s signed.in_first.2 p.1.1 p.1.2;
        text = w.whole ∙ ap (λ x. w.first ++ x) (signed.whole ∙ (λ i. signed.in_first.1 i ++ (gap.whole
            ∙ ap (λ x. gap.first ++ x) word.whole) i));
      },
      p.1.2,
    )

comparator_to : (t : Text) → IsStatedComparator t → Comparator t
comparator_to t (s, w, some) = record {
  first = w.before;
  second = sign s.operator ++ (w.gap ++ (w.word ++ w.after));
  in_first = w.before_is;
  in_second = both (sign s.operator) _ (s.operator, refl, (and_parts (is_of_term s.operator) (is_accepted s) w.is_read).0) (both w.gap _ w.gap_is (both w.word w.after (
    s.partial,
    (
      w.partial,
      (and_parts (is_partial_of_cargo s.partial)
          (is_every s || not (states_nothing s.partial)) (and_parts (is_of_term s.operator) (is_accepted s) w.is_read).1).0,
      some,
    ),
  ) w.after_is));
  whole = w.text;
}

stated_comparator : CompletesBy in_bytes IsStatedComparator (codes "0") stated_completions
stated_comparator =
    let spaces = blanks Cargo in
    among (same (seq spaces (seq signs (seq spaces (seq stated_partial spaces)))) IsStatedComparator comparator_from comparator_to)
    stated_completions refl

abbrev IsEvery : Text → Type 0
IsEvery t = (s : Simple) × SpellsComparator s t × (states_nothing s.partial ≡ true)

abbrev Every : Text → Type 0
Every = Seq (AreBlanks Cargo) (Seq IsWild (AreBlanks Cargo))

every_from : (t : Text) → Every t → IsEvery t
every_from t w = let wild = w.in_second in (
  record { operator = Bare; partial = one wild.first },
  record {
    before = w.first;
    gap = [];
    word = wild.first;
    after = wild.second;
    before_is = w.in_first;
    gap_is = refl;
    after_is = wild.in_second;
    partial = spelled_one wild.first (of_wild wild.first wild.in_first);
    is_read = rw (wild.in_first) refl;
    text = w.whole ∙ ap (λ x. w.first ++ x) wild.whole;
  },
  none_stated wild.first [] ∙ wild.in_first,
)

-- a comparator that Cargo accepts and that states no number has no operator and only one component
every_is : (s : Simple) → is_of_cargo s ≡ true → states_nothing s.partial ≡ true → (is_bare s.operator ≡ true) × (is_one s.partial ≡ true)
every_is s e n =
    let every = and_parts (is_partial_of_cargo s.partial) (is_every s || not (states_nothing s.partial))
    (and_parts (is_of_term s.operator) (is_accepted s) e).1 in
    let both = and_parts (is_bare s.operator) (is_one s.partial && states_nothing s.partial)
    (or_second (is_every s) (not (states_nothing s.partial)) (rw n refl) every.1) in
    (both.0, (and_parts (is_one s.partial) (states_nothing s.partial) both.1).0)

bare_sign : (f : Operator) → is_bare f ≡ true → sign f ≡ []
bare_sign Bare e = refl
bare_sign _ e = absurd (cc)

one_wild : (p : PartialTree) (t : Text) → SpellsPartial p t → is_one p ≡ true → states_nothing p ≡ true → IsWild t
one_wild (one a) t w e n = subst IsWild (sym (w.2 ∙ append-nil a)) (sym (none_stated a []) ∙ n)
one_wild (two a b) t w e n = absurd (cc)
one_wild (three a b c pre build) t w e n = absurd (cc)

every_to : (t : Text) → IsEvery t → Every t
every_to t (s, w, none) =
    let every = every_is s w.is_read none in record {
      first = w.before ++ w.gap;
      second = w.word ++ w.after;
      in_first = blanks_append Cargo w.before w.gap w.before_is w.gap_is;
      in_second = both w.word w.after (one_wild s.partial w.word w.partial every.1 none) w.after_is;
      whole = w.text ∙ ap (λ x. w.before ++ (x ++ (w.gap ++ (w.word ++ w.after)))) (bare_sign s.operator every.0)
          ∙ sym (append_assoc w.before w.gap (w.word ++ w.after));
    }

every : CompletesBy in_bytes IsEvery (codes "*") stated_completions
every = let spaces = blanks Cargo in among (same (seq spaces (seq wild spaces)) IsEvery every_from every_to) stated_completions refl

-- ---- requirements

abbrev pub IsRequirement : Text → Type 0
IsRequirement t = (tree : SetTree) × SpellsRequirement tree t

abbrev IsComma : Text → Type 0
IsComma t = t ≡ codes ","

abbrev Next : Text → Type 0
Next = Seq IsComma IsStatedComparator

abbrev Requirement : Text → Type 0
Requirement t = IsEvery t ⊎ Seq IsStatedComparator (AtMost 31 Next) t

abbrev some_states_nothing : List Simple → Bool
some_states_nothing ss = list_any (λ s. states_nothing s.partial) ss

record AreStated (t : Text) (n : ℕ) : Type 0 where
  first : Simple
  others : List Simple
  spelled : SpellsComparators (first ∷ others) t
  stated : some_states_nothing (first ∷ others) ≡ false
  few : length others ≡ n

all_from : (x : Text) → IsStatedComparator x → (xs : List Text) → AllByRecursion Next xs → (t : Text) → t ≡ x ++ concat xs
    → AreStated t (length xs)
all_from x (s, w, n) [] all t e = record {
  first = s;
  others = [];
  spelled = subst (SpellsComparator s) (sym (e ∙ append-nil x)) w;
  stated = rw n refl;
  few = refl;
}
all_from x (s, w, n) (y ∷ ys) all t e =
    let next = all.0 in
    let rest = all_from next.second next.in_second ys all.1 (next.second ++ concat ys) refl in record {
      first = s;
      others = rest.first ∷ rest.others;
      spelled = (
        x,
        next.second ++ concat ys,
        w,
        rest.spelled,
        e ∙ ap (λ z. x ++ (z ++ concat ys)) (next.whole ∙ ap (λ z. z ++ next.second) next.in_first) ∙ simp append_assoc,
      );
      stated = rw n rest.stated;
      few = omega (arith, rest.few);
    }

alone_too : (s : Simple) (ss : List Simple) → some_states_nothing (s ∷ ss) ≡ false → stands_alone (s ∷ ss) ≡ true
alone_too s [] e = refl
alone_too s (r ∷ rs) e = rw e refl

requirement_from : (t : Text) → Requirement t → IsRequirement t
requirement_from t (inl (s, w, n)) = (simples s [] ∷ [], record { comparators = w; alone = refl; few = omega arith })
requirement_from t (inr w) =
    let all = all_from w.first w.in_first w.in_second.many.texts w.in_second.many.each t
    (w.whole ∙ ap (λ x. w.first ++ x) w.in_second.many.whole) in (
      simples all.first all.others ∷ [],
      record {
        comparators = all.spelled;
        alone = alone_too all.first all.others all.stated;
        few = omega (arith, all.few, w.in_second.few);
      },
    )

neither : (x y : Bool) → (x || y) ≡ false → (x ≡ false) × (y ≡ false)
neither false false e = (refl, refl)
neither false true e = absurd (cc)
neither true y e = absurd (cc)

all_to : (s : Simple) (ss : List Simple) (t : Text) → SpellsComparators (s ∷ ss) t → some_states_nothing (s ∷ ss) ≡ false
    → Seq IsStatedComparator (AtMost (length ss) Next) t
all_to s [] t w n = record {
  first = t;
  second = [];
  in_first = (s, w, (neither (states_nothing s.partial) false n).0);
  in_second = record { many = record { texts = []; each = tt; whole = refl }; few = omega arith };
  whole = sym (append-nil t);
}
all_to s (r ∷ rs) t (front, back, w, more, e) n =
    let none = neither (states_nothing s.partial) (some_states_nothing (r ∷ rs)) n in
    let rest = all_to r rs back more none.1 in record {
      first = front;
      second = (codes "," ++ rest.first) ++ concat rest.in_second.many.texts;
      in_first = (s, w, none.0);
      in_second = record {
        many = record {
          texts = (codes "," ++ rest.first) ∷ rest.in_second.many.texts;
          each = (both (codes ",") rest.first refl rest.in_first, rest.in_second.many.each);
          whole = refl;
        };
        few = omega (arith, rest.in_second.few);
      };
      whole = e ∙ ap (λ x. front ++ (codes "," ++ x)) (rest.whole ∙ ap (λ x. rest.first ++ x) rest.in_second.many.whole);
    }

no_more : (n k : ℕ) (P : Text → Type 0) (t : Text) → n ≤ k → AtMost n P t → AtMost k P t
no_more n k P t fewer w = record { many = w.many; few = omega (arith, fewer, w.few) }

requirement_to : (t : Text) → IsRequirement t → Requirement t
requirement_to t (simples s [] ∷ [], w) =
    by_test (states_nothing s.partial)
    (λ y. inl (s, w.comparators, y))
    (λ n. inr (let all = all_to s [] t w.comparators (rw n refl) in
    record {
      first = all.first;
      second = all.second;
      in_first = all.in_first;
      in_second = no_more 0 31 Next all.second (omega arith) all.in_second;
      whole = all.whole;
    }))
requirement_to t (simples s (r ∷ rs) ∷ [], w) =
    inr (let all = all_to s (r ∷ rs) t w.comparators (not_true (some_states_nothing (s ∷ r ∷ rs)) w.alone) in record {
      first = all.first;
      second = all.second;
      in_first = all.in_first;
      in_second = no_more (length (r ∷ rs)) 31 Next all.second (omega (arith, w.few)) all.in_second;
      whole = all.whole;
    })
  where
    not_true : (x : Bool) → not x ≡ true → x ≡ false
    not_true false e = refl
    not_true true e = absurd (cc)
requirement_to t (_, w) = absurd (w.comparators)

pub requirements : CompletesBy in_bytes IsRequirement (codes "*") stated_completions
requirements =
    let comma = byte_by in_bytes 44 (omega arith) in
    let all = seq stated_comparator (prefixes.at_most (seq comma stated_comparator) 31) in
    among (same (choice every all (omega arith)) IsRequirement requirement_from requirement_to) stated_completions refl

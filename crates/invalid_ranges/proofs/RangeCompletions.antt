-- Each prefix of a range text of the crate or of npm can be completed by one of a few texts, if each
-- prefix of a word can be.
use Rattle.std.proofs.Common.{◌≡◌, ℕ, ◌≤◌, ◌⊎◌, inl, inr, Bool, true, false, List, [], ◌∷◌, ◌++◌, codes, length, refl, sym, ap, ◌∙◌}
use Rattle.std.proofs.Common.{append-nil, append_assoc, arith, subst}
use Rattle.std.specs.Prelude.{◌&&◌, ◌||◌, ◌==◌}
use Rattle.std.specs.List.{AllByRecursion, concat}
use Rattle.std.proofs.lemmas.Bool.{and_parts, eqb-true}
use Rattle.std.proofs.lemmas.Bool.Decides.{nat_tests}
use Rattle.semver_texts.specs.Texts.{Text}
use Rattle.semver_texts.specs.declared.grammar.Grammar.{Grammar}
use Rattle.semver_ranges.specs.declared.operator.Operator.{Operator}
use Rattle.semver_ranges.specs.declared.operator.Operator.TheVariants.{Bare, Equal, Less, LessOrEqual, Greater, GreaterOrEqual, Tilde}
use Rattle.semver_ranges.specs.declared.operator.Operator.TheVariants.{Caret, Hyphen}
use Rattle.semver_ranges.specs.RangeTree.{Simple, RangeTree, empty, hyphen, simples, PartialTree, SetTree, Role, after_operator, after_hyphen}
use Rattle.semver_ranges.specs.RangeTree.{AreBlanks, AreSomeBlanks, SpellsOperator, SpellsRangeIn, SpellsPadded, SpellsRange, SpellsSimple}
use Rattle.semver_ranges.specs.RangeTree.{SpellsSimples, SpellsWord}
use Rattle.invalid_strings.proofs.Completions.{CompletesBy, Separated, Seq, among, both, byte_by, choice, dependent, in_bytes}
use Rattle.invalid_strings.proofs.Completions.{many, optional, same, seq}
use Rattle.invalid_strings.proofs.Leaves.{either}
use Rattle.invalid_ranges.proofs.RangeLeaves.{blanks, blanks_append, closed, some_blanks}
use Rattle.invalid_ranges.proofs.WordCompletions.{IsWord, word_completions}

abbrev pub set_completions : List Text
set_completions = codes "" ∷ codes "*" ∷ codes "a" ∷ codes "|" ∷ codes " *" ∷ []

-- ---- signs

abbrev is_sign : Text → Bool
is_sign (a ∷ []) = (a == 61) || ((a == 60) || ((a == 62) || ((a == 126) || (a == 94))))
is_sign (a ∷ b ∷ []) = ((a == 60) && (b == 61)) || (((a == 62) && (b == 61)) || ((a == 126) && (b == 62)))
is_sign _ = false

abbrev IsSign : Text → Type 0
IsSign t = is_sign t ≡ true

sign_prefix : (b : ℕ) (t rest : Text) → IsSign (b ∷ t ++ rest) → IsSign (b ∷ t)
sign_prefix b [] [] is = is
sign_prefix b [] (c ∷ []) is = grind (arith, nat_tests)
sign_prefix b [] (c ∷ d ∷ rest) is = cc
sign_prefix b (c ∷ []) [] is = is
sign_prefix b (c ∷ []) (d ∷ rest) is = cc
sign_prefix b (c ∷ d ∷ t) rest is = cc

sign : CompletesBy in_bytes IsSign (codes "=") ([] ∷ [])
sign = closed IsSign (codes "=") refl refl some sign_prefix
  where
    some : (t : Text) → IsSign t → 1 ≤ length t
    some [] is = cc
    some (b ∷ t) is = omega arith

module _ (d : Grammar) where
  abbrev IsFormText : Text → Type 0
  IsFormText t = (operator : Operator) × SpellsOperator d operator t

  abbrev Signed : Text → Type 0
  Signed s = (operator : Operator) × ((x : Text) → AreBlanks d x → SpellsOperator d operator (s ++ x))

  signed : (s : Text) → IsSign s → Signed s
  signed [] is = cc
  signed (a ∷ []) is = elim (either _ _ is) [
    | inl e ↦ (Equal, λ x w. (x, w, ap (λ c. c ∷ x) (eqb-true a 61 e)))
    | inr is ↦ elim (either _ _ is) [
      | inl e ↦ (Less, λ x w. (x, w, ap (λ c. c ∷ x) (eqb-true a 60 e)))
      | inr is ↦ elim (either _ _ is) [
        | inl e ↦ (Greater, λ x w. (x, w, ap (λ c. c ∷ x) (eqb-true a 62 e)))
        | inr is ↦ elim (either _ _ is) [
          | inl e ↦ (Tilde, λ x w. inl (x, w, ap (λ c. c ∷ x) (eqb-true a 126 e)))
          | inr e ↦ (Caret, λ x w. (x, w, ap (λ c. c ∷ x) (eqb-true a 94 e)))
        ]
      ]
    ]
  ]
  signed (a ∷ b ∷ []) is = elim (either _ _ is) [
    | inl e ↦ (LessOrEqual, λ x w. (x, w, two a b 60 61 x e))
    | inr is ↦ elim (either _ _ is) [
      | inl e ↦ (GreaterOrEqual, λ x w. (x, w, two a b 62 61 x e))
      | inr e ↦ (Tilde, λ x w. inr (x, w, two a b 126 62 x e))
    ]
  ]
    where
      two : (a b c d : ℕ) (x : Text) → ((a == c) && (b == d)) ≡ true → ◌≡◌ {A = Text} (a ∷ b ∷ x) (c ∷ d ∷ x)
      two a b c d x e = let w = and_parts (a == c) (b == d) e in λ i. eqb-true a c w.0 i ∷ eqb-true b d w.1 i ∷ x
  signed (a ∷ b ∷ c ∷ t) is = cc

  operator : CompletesBy in_bytes IsFormText [] ([] ∷ [] ∷ [])
  operator = same (optional (seq sign (blanks d))) IsFormText to from
    where
      to : (t : Text) → (t ≡ []) ⊎ Seq IsSign (AreBlanks d) t → IsFormText t
      to t (inl e) = (Bare, e)
      to t (inr w) = let f = signed w.first w.in_first in (f.0, subst (SpellsOperator d f.0) (sym w.whole) (f.1 w.second w.in_second))

      after : (sign t : Text) → IsSign sign → (x : Text) × AreBlanks d x × (t ≡ sign ++ x) → (t ≡ []) ⊎ Seq IsSign (AreBlanks d) t
      after sign t is (x, w, e) = inr (record { first = sign; second = x; in_first = is; in_second = w; whole = e })

      from : (t : Text) → IsFormText t → (t ≡ []) ⊎ Seq IsSign (AreBlanks d) t
      from t (Bare, e) = inl e
      from t (Hyphen, w) = absurd w
      from t (Equal, w) = after (codes "=") t refl w
      from t (Less, w) = after (codes "<") t refl w
      from t (LessOrEqual, w) = after (codes "<=") t refl w
      from t (Greater, w) = after (codes ">") t refl w
      from t (GreaterOrEqual, w) = after (codes ">=") t refl w
      from t (Tilde, inl w) = after (codes "~") t refl w
      from t (Tilde, inr w) = after (codes "~>") t refl w
      from t (Caret, w) = after (codes "^") t refl w

  -- ---- terms

  abbrev IsSimpleText : Text → Type 0
  IsSimpleText t = (s : Simple) × SpellsSimple d s t

  abbrev InForm : Operator → Text → Type 0
  InForm f t = SpellsOperator d f t

  abbrev AfterOperator : Operator → Text → Type 0
  AfterOperator f t = IsWord d (after_operator f) t

  abbrev IsSimplesText : Text → Type 0
  IsSimplesText t = (first : Simple) × (others : List Simple) × SpellsSimples d first others t

  abbrev Simples : Text → Type 0
  Simples = Separated (AreSomeBlanks d) IsSimpleText

  simples_from : (front : Text) → IsSimpleText front → (xs : List Text) → AllByRecursion (Seq (AreSomeBlanks d) IsSimpleText) xs
      → (t : Text) → t ≡ front ++ concat xs → IsSimplesText t
  simples_from front (s, f) [] all t e = (s, [], subst (SpellsSimple d s) (sym (e ∙ append-nil front)) f)
  simples_from front (s, f) (x ∷ xs) all t e =
      let w = all.0 in
      let rest = simples_from w.second w.in_second xs all.1 (w.second ++ concat xs) refl in (
        s,
        rest.0 ∷ rest.1,
        (
          front,
          w.first,
          w.second ++ concat xs,
          f,
          w.in_first,
          rest.2,
          e ∙ ap (λ y. front ++ (y ++ concat xs)) w.whole ∙ simp append_assoc,
        ),
      )

  simples_to : (s : Simple) (others : List Simple) (t : Text) → SpellsSimples d s others t → Simples t
  simples_to s [] t w = record {
    first = t;
    second = [];
    in_first = (s, w);
    in_second = record { texts = []; each = tt; whole = refl };
    whole = sym (append-nil t);
  }
  simples_to s (next ∷ others) t (front, gap, back, f, g, b, e) =
      let r = simples_to next others back b in
      record {
        first = front;
        second = (gap ++ r.first) ++ concat r.in_second.texts;
        in_first = (s, f);
        in_second = record {
          texts = (gap ++ r.first) ∷ r.in_second.texts;
          each = (both gap r.first g r.in_first, r.in_second.each);
          whole = refl;
        };
        whole = e ∙ ap (λ y. (front ++ gap) ++ y) (r.whole ∙ ap (λ y. r.first ++ y) r.in_second.whole) ∙ simp append_assoc;
      }

  -- ---- ranges with blanks around them

  abbrev IsPaddedText : Text → Type 0
  IsPaddedText t = (r : RangeTree) × SpellsPadded d r t

  abbrev Dashed : Text → Type 0
  Dashed = Seq (λ t. t ≡ codes "-") (Seq (AreSomeBlanks d) (IsWord d after_hyphen))

  abbrev Spaced : Text → Type 0
  Spaced = Seq (AreSomeBlanks d) (λ t. (t ≡ []) ⊎ Dashed t)

  abbrev Begun : Text → Type 0
  Begun = Seq (IsWord d (after_operator Bare)) (λ t. (t ≡ []) ⊎ Spaced t)

  abbrev Range : Text → Type 0
  Range t = (t ≡ []) ⊎ (Simples t ⊎ Begun t)

  alone : (p : PartialTree) (t : Text) → SpellsWord d (after_operator Bare) p t → SpellsSimple d (record { operator = Bare; partial = p }) t
  alone p t w = ([], t, refl, w, refl)

  padded_from : (t : Text) → Seq (AreBlanks d) (Seq Range (AreBlanks d)) t → IsPaddedText t
  padded_from t w = inner w.in_second.in_first
    where
      whole : t ≡ w.first ++ (w.in_second.first ++ w.in_second.second)
      whole = w.whole ∙ ap (λ x. w.first ++ x) w.in_second.whole

      padded : (r : RangeTree) → SpellsRange d r w.in_second.first → IsPaddedText t
      padded r is = (r, (w.first, w.in_second.first, w.in_second.second, w.in_first, is, w.in_second.in_second, whole ∙ simp append_assoc))

      begun : Begun w.in_second.first → IsPaddedText t
      begun h = elim h.in_second [
        | inl e ↦ (let same : w.in_second.first ≡ h.first = h.whole ∙ ap (λ x. h.first ++ x) e ∙ append-nil h.first in
            padded (simples (record { operator = Bare; partial = h.in_first.0 }) [])
            (alone h.in_first.0 w.in_second.first (subst (SpellsWord d (after_operator Bare) h.in_first.0) (sym same) h.in_first.1)))
        | inr g ↦ elim g.in_second [
          | inl e ↦ (
            simples (record { operator = Bare; partial = h.in_first.0 }) [],
            (
              w.first,
              h.first,
              g.first ++ w.in_second.second,
              w.in_first,
              alone h.in_first.0 h.first h.in_first.1,
              blanks_append d g.first w.in_second.second g.in_first.1 w.in_second.in_second,
              whole ∙ ap (λ x. w.first ++ (x ++ w.in_second.second)) (h.whole ∙ ap (λ x. h.first ++ x)
                  (g.whole ∙ ap (λ x. g.first ++ x) e)) ∙ simp append_assoc,
            ),
          )
          | inr y ↦ (let right = y.in_second in
              padded (hyphen h.in_first.0 right.in_second.0) (
                h.first,
                g.first,
                right.first,
                right.second,
                h.in_first.1,
                g.in_first,
                right.in_first,
                right.in_second.1,
                h.whole ∙ ap (λ x. h.first ++ x) (g.whole ∙ ap (λ x. g.first ++ x) (y.whole ∙ (λ i. y.in_first i ++ right.whole i)))
                    ∙ simp append_assoc,
              ))
        ]
      ]

      inner : Range w.in_second.first → IsPaddedText t
      inner (inl e) = padded empty e
      inner (inr (inl s)) = let all = simples_from s.first s.in_first s.in_second.texts s.in_second.each w.in_second.first
          (s.whole ∙ ap (λ x. s.first ++ x) s.in_second.whole) in
          padded (simples all.0 all.1) all.2
      inner (inr (inr h)) = begun h

  padded_to : (t : Text) → IsPaddedText t → Seq (AreBlanks d) (Seq Range (AreBlanks d)) t
  padded_to t (r, (before, inner, after, b, is, a, e)) =
      record {
        first = before;
        second = inner ++ after;
        in_first = b;
        in_second = both inner after (range r is) a;
        whole = e ∙ append_assoc before inner after;
      }
    where
      range : (r : RangeTree) → SpellsRange d r inner → Range inner
      range empty e = inl e
      range (simples first others) w = inr (inl (simples_to first others inner w))
      range (hyphen left right) (front, gap, gap', back, l, g, g', k, e) =
          let tail : Spaced (gap ++ (codes "-" ++ (gap' ++ back))) =
          both gap _ g (inr (both (codes "-") _ refl (both gap' back g' (right, k)))) in
          let all : Begun (front ++ (gap ++ (codes "-" ++ (gap' ++ back)))) = both front _ (left, l) (inr tail) in
          inr (inr (subst Begun (sym (e ∙ simp append_assoc)) all))

  -- ---- range sets

  abbrev pub IsSetText : Text → Type 0
  IsSetText t = (tree : SetTree) × SpellsRangeIn d tree t

  abbrev IsBars : Text → Type 0
  IsBars t = t ≡ codes "||"

  set_from : (front : Text) → IsPaddedText front → (xs : List Text) → AllByRecursion (Seq IsBars IsPaddedText) xs
      → (t : Text) → t ≡ front ++ concat xs → (r : RangeTree) × (rs : SetTree) × SpellsRangeIn d (r ∷ rs) t
  set_from front (r, f) [] all t e = (r, [], subst (SpellsPadded d r) (sym (e ∙ append-nil front)) f)
  set_from front (r, f) (x ∷ xs) all t e =
      let w = all.0 in
      let rest = set_from w.second w.in_second xs all.1 (w.second ++ concat xs) refl in (
        r,
        rest.0 ∷ rest.1,
        (
          front,
          w.second ++ concat xs,
          f,
          rest.2,
          e ∙ ap (λ y. front ++ (y ++ concat xs)) (w.whole ∙ ap (λ y. y ++ w.second) w.in_first) ∙ simp append_assoc,
        ),
      )

  set_to : (r : RangeTree) (rs : SetTree) (t : Text) → SpellsRangeIn d (r ∷ rs) t → Separated IsBars IsPaddedText t
  set_to r [] t w = record {
    first = t;
    second = [];
    in_first = (r, w);
    in_second = record { texts = []; each = tt; whole = refl };
    whole = sym (append-nil t);
  }
  set_to r (next ∷ others) t (front, back, f, b, e) =
      let w = set_to next others back b in
      record {
        first = front;
        second = (codes "||" ++ w.first) ++ concat w.in_second.texts;
        in_first = (r, f);
        in_second = record {
          texts = (codes "||" ++ w.first) ∷ w.in_second.texts;
          each = (both (codes "||") w.first refl w.in_first, w.in_second.each);
          whole = refl;
        };
        whole = e ∙ ap (λ y. (front ++ codes "||") ++ y) (w.whole ∙ ap (λ y. w.first ++ y) w.in_second.whole) ∙ simp append_assoc;
      }

  module _ (words : (role : Role) → CompletesBy in_bytes (IsWord d role) (codes "*") word_completions) where
    simple : CompletesBy in_bytes IsSimpleText (codes "*") word_completions
    simple = among (same (dependent InForm AfterOperator operator (λ f. words (after_operator f))) IsSimpleText
        (λ t w. (record { operator = w.0; partial = w.1.in_second.0 }, (w.1.first, w.1.second, w.1.in_first, w.1.in_second.1, w.1.whole)))
        (λ t w. let (front, back, f, p, e) = w.1 in
        (w.0.operator, record { first = front; second = back; in_first = f; in_second = (w.0.partial, p); whole = e }))) word_completions refl

    pub range_texts : CompletesBy in_bytes IsSetText [] set_completions
    range_texts =
        let spaces = some_blanks d in
        let bar = byte_by in_bytes 124 (omega arith) in
        let bars = same (seq bar bar) IsBars (λ t w. w.whole ∙ (λ i. w.in_first i ++ w.in_second i))
        (λ t e. record { first = codes "|"; second = codes "|"; in_first = refl; in_second = refl; whole = e }) in
        let hyphens = seq (byte_by in_bytes 45 (omega arith)) (seq spaces (words after_hyphen)) in
        let begun = seq (words (after_operator Bare)) (optional (seq spaces (optional hyphens))) in
        let all_simples = seq simple (many (seq spaces simple)) in
        let inner = optional (choice all_simples begun (omega arith)) in
        let padded = same (seq (blanks d) (seq inner (blanks d))) IsPaddedText padded_from padded_to in
        let set = same (seq padded (many (seq bars padded))) IsSetText
        (λ t w. let s = set_from w.first w.in_first w.in_second.texts w.in_second.each t (w.whole
        ∙ ap (λ x. w.first ++ x) w.in_second.whole) in
        (s.0 ∷ s.1, s.2)) to in
        among set set_completions refl
      where
        to : (t : Text) → IsSetText t → Separated IsBars IsPaddedText t
        to t ([], w) = absurd w
        to t (r ∷ rs, w) = set_to r rs t w

-- The reader finds a comparator at the beginning of a requirement if and only if there is one.
use Rattle.std.proofs.Common.{◌≡◌, ℕ, Bool, true, false, ◌==◌, ◌&&◌, ◌||◌, not, [], ◌∷◌, ◌++◌, refl, sym, ap, ◌∙◌, rules}
use Rattle.std.proofs.Common.{Option, Some, None, append_assoc, inl, inr, subst}
use Rattle.std.proofs.lemmas.Bool.{and_from, and_parts, or_left}
use Rattle.std.proofs.lemmas.List.Folds.{list_all-append}
use Rattle.std.specs.Prelude.{option_map}
use Rattle.semver_texts.specs.Texts.{Text, is_empty}
use Rattle.semver_texts.specs.declared.grammar.Grammar.TheVariants.{Cargo}
use Rattle.semver_ranges.specs.Partials.{states_nothing}
use Rattle.semver_ranges.specs.declared.operator.Operator.{Operator}
use Rattle.semver_ranges.specs.declared.operator.Operator.TheVariants.{Bare, Equal, Less, LessOrEqual, Greater, GreaterOrEqual, Tilde}
use Rattle.semver_ranges.specs.declared.operator.Operator.TheVariants.{Caret, Hyphen}
use Rattle.semver_ranges.specs.RangeTree.{PartialTree, is_bare, is_of_term, Simple, after_operator, is_blank, AreBlanks, SpellsOperator}
use Rattle.semver_ranges.specs.CargoGrammar.{is_of_cargo, SpellsComparator}
use Rattle.semver_ranges.specs.OperatorTable.{sign}
use Rattle.semver_ranges.specs.Steps.Reading.{after_blanks, ends_word, operator_at, partial, simple, with_form}
use Rattle.semver_ranges.specs.TextItems.{FoundTerm, Item, one_term}
use Rattle.semver_ranges.specs.Steps.FoundItems.{begins_with_tilde_greater, comparator_at, may_come}
use Rattle.semver_ranges.specs.Steps.FoundItems.{simple_of, with_comparator}
use Rattle.semver_ranges.proofs.ReadingPieces.{SimpleAt, simple_sound}
use Rattle.semver_ranges.proofs.ReadingPieces.{starts, starts-append, is_word_byte, component_word, partial_starts}
use Rattle.semver_ranges.proofs.WrittenPieces.{stops, operator_read, blanks_after, no_blank, no_sign, partial_read}
use Rattle.tool_ranges.specs.SpelledItems.{comparator_term, from_operator}
use Rattle.semver_texts.proofs.Lists.{by_test}

-- ---- a comparator that is found is in the text

-- the text before a partial version is a sign and blanks, unless it begins with `~>`
form_signed : (f : Operator) (w t : Text) → SpellsOperator Cargo f w → begins_with_tilde_greater (w ++ t) ≡ false
    → (gap : Text) × AreBlanks Cargo gap × (w ≡ sign f ++ gap)
form_signed Bare w t h n = ([], refl, h)
form_signed Tilde w t (inl h) n = h
form_signed Tilde w t (inr (blanks, h, text)) n = cc
form_signed Equal w t h n = h
form_signed Less w t h n = h
form_signed LessOrEqual w t h n = h
form_signed Greater w t h n = h
form_signed GreaterOrEqual w t h n = h
form_signed Caret w t h n = h
form_signed Hyphen w t h n = absurd h

-- the term and the rest of what is found
abbrev term_and : FoundTerm → Text → Option (Item × Text)
term_and x u = Some (one_term x, u)

abbrev term_of : FoundTerm → Option (Item × Text) → FoundTerm
term_of other (Some (one_term x, u)) = x
term_of other _ = other

abbrev rest_of : Text → Option (Item × Text) → Text
rest_of other (Some found) = found.1
rest_of other None = other

-- a comparator at the beginning of a text t is a term that may come
module _ (is_first : Bool) (t : Text) where
  abbrev Came : FoundTerm → Text → Option (Simple × Text) → Type 0
  Came x u o = (o ≡ Some (simple_of x, u)) × (may_come is_first t (simple_of x) u ≡ true)

  same_came : (f : Operator) (p : PartialTree) (v : Text) (x y : FoundTerm) (w u : Text) → term_and x w ≡ term_and y u
      → with_form Cargo f (Some (p, v)) ≡ Some (simple_of x, w) → may_come is_first t (simple_of x) w ≡ true
      → Came y u (with_form Cargo f (Some (p, v)))
  same_came f p v x y w u same operator may =
      let both : Came x w (with_form Cargo f (Some (p, v))) = (operator, may) in
      subst (λ u. Came y u (with_form Cargo f (Some (p, v)))) (ap (rest_of w) same)
      (subst (λ y. Came y w (with_form Cargo f (Some (p, v)))) (ap (term_of x) same) both)

  came : (f : Operator) (r : Text) (q : Option (PartialTree × Text)) (x : FoundTerm) (u : Text)
      → with_comparator is_first t (with_form Cargo f q)
      (option_map (λ found. record { partial = found.0; from = r; after = found.1 }) q) ≡ Some (one_term x, u)
      → Came x u (with_form Cargo f q)
  came f r None x u e = cc
  came f r (Some (p, v)) x u e = by_test (may_come is_first t (record { operator = f; partial = p }) (after_blanks Cargo v))
      (λ y. same_came f p v _ x (after_blanks Cargo v) u (rw y at e) refl y)
      (λ n. let no : None ≡ Some (one_term x, u) = rw n at e in cc)

  -- its text
  pub record Comparator (x : FoundTerm) (u : Text) : Type 0 where
    pub front : Text
    pub spelled : SpellsComparator (simple_of x) front
    pub whole : t ≡ front ++ u
    pub alone : (not (states_nothing x.version.partial) || (is_first && is_empty u)) ≡ true

  spelled_at : (x : FoundTerm) (u : Text) → SimpleAt Cargo t (Some (simple_of x, u)) → may_come is_first t (simple_of x) u ≡ true
      → Comparator x u
  spelled_at x u (w, gap, (sgn, word, operator, spelled, text), parts, whole) may =
      let rules = and_parts (not (begins_with_tilde_greater t)) _ may in
      let accepted = and_parts (is_of_cargo (simple_of x)) _ rules.1 in
      let all : t ≡ sgn ++ (word ++ (gap ++ u)) = whole ∙ ap (λ y. y ++ (gap ++ u)) text ∙ append_assoc sgn word (gap ++ u) in
      let signed = form_signed x.operator sgn (word ++ (gap ++ u)) operator (subst (λ y. begins_with_tilde_greater y ≡ false) all (not_true _ rules.0)) in
      record {
        front = sign x.operator ++ (signed.0 ++ (word ++ gap));
        spelled = record {
          before = [];
          gap = signed.0;
          word = word;
          after = gap;
          before_is = refl;
          gap_is = signed.1;
          after_is = parts.0;
          partial = spelled;
          is_read = accepted.0;
          text = refl;
        };
        whole = all ∙ ap (λ y. y ++ (word ++ (gap ++ u))) signed.2 ∙ simp append_assoc;
        alone = accepted.1;
      }
    where
      not_true : (b : Bool) → not b ≡ true → b ≡ false
      not_true true e = cc
      not_true false e = refl

  pub comparator_sound : (x : FoundTerm) (u : Text) → comparator_at is_first t ≡ Some (one_term x, u) → Comparator x u
  comparator_sound x u e =
      let r = operator_at Cargo t in
      let here : Came x u (simple Cargo t) = came r.0 r.1 (partial Cargo (after_operator r.0) r.1) x u e in
      spelled_at x u (subst (SimpleAt Cargo t) here.0 (simple_sound Cargo t)) here.1

-- blanks before a comparator belong to it
pub blanks_before : (s : Simple) (before t : Text) → AreBlanks Cargo before → SpellsComparator s t → SpellsComparator s (before ++ t)
blanks_before s before t h spelled = record {
  before = before ++ spelled.before;
  gap = spelled.gap;
  word = spelled.word;
  after = spelled.after;
  before_is = list_all-append (is_blank Cargo) before spelled.before ∙ and_from _ _ h spelled.before_is;
  gap_is = spelled.gap_is;
  after_is = spelled.after_is;
  partial = spelled.partial;
  is_read = spelled.is_read;
  text = ap (λ y. before ++ y) spelled.text ∙ sym (append_assoc before spelled.before _);
}

-- ---- a comparator in the text is found

no_tilde : (a : ℕ) (t : Text) → (a == 126) ≡ false → begins_with_tilde_greater (a ∷ t) ≡ false
no_tilde a [] e = refl
no_tilde a (b ∷ t) e = rw e refl

tilde_alone : (t : Text) → stops (λ b. b == 62) t ≡ true → begins_with_tilde_greater (126 ∷ t) ≡ false
tilde_alone [] e = refl
tilde_alone (b ∷ t) e = search rules

starts_no_tilde : (t : Text) → starts is_word_byte t ≡ true → begins_with_tilde_greater t ≡ false
starts_no_tilde [] e = cc
starts_no_tilde (b ∷ t) e = search rules

-- an operator and the blanks after it are read, and `x` is left
abbrev Begins : Operator → Text → Text → Type 0
Begins f gap x = (begins_with_tilde_greater ((sign f ++ gap) ++ x) ≡ false) × (operator_at Cargo ((sign f ++ gap) ++ x) ≡ (f, x))

begins_with : (f : Operator) (gap x : Text) → AreBlanks Cargo gap → starts is_word_byte x ≡ true
    → is_bare f ≡ false → is_of_term f ≡ true → Begins f gap x
begins_with Bare gap x g e other term = cc
begins_with Hyphen gap x g e other term = cc
begins_with Equal gap x g e other term = (no_tilde 61 _ refl, operator_read Cargo Equal _ x (gap, g, refl) e)
begins_with Less gap x g e other term = (no_tilde 60 _ refl, operator_read Cargo Less _ x (gap, g, refl) e)
begins_with LessOrEqual gap x g e other term =
    (no_tilde 60 (61 ∷ (gap ++ x)) refl, operator_read Cargo LessOrEqual _ x (gap, g, refl) e)
begins_with Greater gap x g e other term = (no_tilde 62 _ refl, operator_read Cargo Greater _ x (gap, g, refl) e)
begins_with GreaterOrEqual gap x g e other term =
    (no_tilde 62 (61 ∷ (gap ++ x)) refl, operator_read Cargo GreaterOrEqual _ x (gap, g, refl) e)
begins_with Tilde gap x g e other term =
    (tilde_alone (gap ++ x) (no_sign Cargo 62 refl refl gap x g e), operator_read Cargo Tilde _ x (inl (gap, g, refl)) e)
begins_with Caret gap x g e other term = (no_tilde 94 _ refl, operator_read Cargo Caret _ x (gap, g, refl) e)

-- the operator at the beginning of `u` is read, and `x` is left
abbrev Reads : Operator → Text → Text → Type 0
Reads f u x = (begins_with_tilde_greater u ≡ false) × (operator_at Cargo u ≡ (f, x))

signs_stop : (f : Operator) (gap x : Text) → is_bare f ≡ false → is_of_term f ≡ true → stops (is_blank Cargo) ((sign f ++ gap) ++ x) ≡ true
signs_stop Bare gap x e term = cc
signs_stop Hyphen gap x e term = cc
signs_stop Equal gap x e term = refl
signs_stop Less gap x e term = refl
signs_stop LessOrEqual gap x e term = refl
signs_stop Greater gap x e term = refl
signs_stop GreaterOrEqual gap x e term = refl
signs_stop Tilde gap x e term = refl
signs_stop Caret gap x e term = refl

bare_form : (f : Operator) → is_bare f ≡ true → f ≡ Bare
bare_form Bare e = refl
bare_form _ e = cc

reads : (f : Operator) (before gap x : Text) → is_of_term f ≡ true → AreBlanks Cargo before → AreBlanks Cargo gap → starts is_word_byte x ≡ true
    → Reads f (after_blanks Cargo (before ++ ((sign f ++ gap) ++ x))) x
reads f before gap x term b g e = by_test (is_bare f)
    (λ y. let is = bare_form f y in rw is (rw (
      sym (append_assoc before gap x),
      blanks_after Cargo (before ++ gap) x (list_all-append (is_blank Cargo) before gap
          ∙ and_from _ _ b g) (no_blank Cargo x e),
    )
    (starts_no_tilde x e, operator_read Cargo Bare [] x refl e)))
    (λ n. rw (blanks_after Cargo before _ b (signs_stop f gap x n term))
    (begins_with f gap x g e n term))

spaces_end : (after v : Text) → AreBlanks Cargo after → ends_word Cargo v ≡ true → ends_word Cargo (after ++ v) ≡ true
spaces_end [] v a e = e
spaces_end (b ∷ after) v a e = or_left _ _ (and_parts (is_blank Cargo b) _ a).0

-- a comparator begins after the blanks before it
begins_after : (f : Operator) (before gap x : Text) → is_of_term f ≡ true → AreBlanks Cargo before → AreBlanks Cargo gap → starts is_word_byte x ≡ true
    → after_blanks Cargo (before ++ ((sign f ++ gap) ++ x)) ≡ from_operator f gap x
begins_after f before gap x term b g e = by_test (is_bare f)
    (λ y. rw (bare_form f y, ← append_assoc before gap x)
    (blanks_after Cargo (before ++ gap) x (list_all-append (is_blank Cargo) before gap ∙ and_from _ _ b g) (no_blank Cargo x e)))
    (λ n. blanks_after Cargo before ((sign f ++ gap) ++ x) b (signs_stop f gap x n term) ∙ append_assoc (sign f) gap x ∙ signed f n)
  where
    signed : (f : Operator) → is_bare f ≡ false → sign f ++ (gap ++ x) ≡ from_operator f gap x
    signed Bare n = cc
    signed _ n = refl

pub comparator_read : (is_first : Bool) (s : Simple) (w v t : Text) (spelled : SpellsComparator s w) → t ≡ w ++ v
    → ends_word Cargo v ≡ true → stops (is_blank Cargo) v ≡ true
    → (not (states_nothing s.partial) || (is_first && is_empty v)) ≡ true
    → comparator_at is_first (after_blanks Cargo t) ≡ Some (one_term (comparator_term s w v spelled), v)
comparator_read is_first s w v t spelled whole e n alone =
    let x = spelled.word ++ (spelled.after ++ v) in
    let text : t ≡ spelled.before ++ ((sign s.operator ++ spelled.gap) ++ x) = whole ∙ ap (λ y. y ++ v) spelled.text ∙ simp append_assoc in
    let begins = starts-append is_word_byte spelled.word (spelled.after ++ v) (component_word spelled.word (partial_starts s.partial spelled.word
    spelled.partial)) in
    let term = (and_parts (is_of_term s.operator) _ spelled.is_read).0 in
    let read : Reads s.operator (after_blanks Cargo t) x =
    rw text (reads s.operator spelled.before spelled.gap x term spelled.before_is spelled.gap_is begins) in
    let from : after_blanks Cargo t ≡ from_operator s.operator spelled.gap x =
    ap (after_blanks Cargo) text ∙ begins_after s.operator spelled.before spelled.gap x term spelled.before_is spelled.gap_is begins in
    rw (
      read.1,
      partial_read Cargo (after_operator s.operator) s.partial spelled.word (spelled.after ++ v) spelled.partial (spaces_end spelled.after v spelled.after_is e),
      blanks_after Cargo spelled.after v spelled.after_is n,
      read.0,
      spelled.is_read,
      alone,
      from,
    ) refl

-- Each word of a term as it is written is at its span, and may be replaced by another.
use Rattle.std.proofs.Common.{◌≡◌, ℕ, suc, ◌+◌, ◌<◌, Bool, true, false, not, ◌&&◌, ◌||◌, List, [], ◌∷◌, ◌++◌, length, Some, None, refl, sym, ap}
use Rattle.std.proofs.Common.{◌∙◌, subst, codes, arith, length-append, append_assoc, append-nil}
use Rattle.std.proofs.lemmas.Bool.{and_from, and_parts, not-true, or_parts, or_right}
use Rattle.std.specs.Prelude.{IsTrue}
use Rattle.std.specs.List.{AllByRecursion, list_all, list_any}
use Rattle.semver_texts.specs.Texts.{Text, begins_with}
use Rattle.semver_texts.specs.declared.grammar.Grammar.{Grammar}
use Rattle.semver_ranges.specs.Partials.{states_nothing}
use Rattle.semver_ranges.specs.declared.operator.Operator.{Operator}
use Rattle.semver_ranges.specs.declared.operator.Operator.TheVariants.{Bare, Hyphen}
use Rattle.semver_ranges.specs.RangeTree.{PartialTree, RangeTree, Role, SetTree, Simple, after_operator, after_hyphen, empty, hyphen, simples, is_of_term}
use Rattle.semver_ranges.specs.RangeTree.{SpellsOperator, SpellsPartial, SpellsWord, SpellsSimple, SpellsSimples, SpellsRange, SpellsPadded, SpellsRangeIn}
use Rattle.semver_ranges.specs.TextItems.{FoundWord, Item, empty_range, one_term, two_bars}
use Rattle.semver_ranges.proofs.ReadingPieces.{component_word, is_word_byte, partial_starts, starts, word_starts}
use Rattle.semver_ranges.specs.CargoGrammar.{SpellsComparator, SpellsComparators, is_every, is_partial_of_cargo}
use Rattle.semver_ranges.specs.OperatorTable.{sign}
use Rattle.tool_ranges.specs.SpelledItems.{comparator_term, comparators_items, padded_items, range_items, ranges_items}
use Rattle.tool_ranges.specs.SpelledItems.{simple_item, simples_items}
use Rattle.range_terms.specs.Replacing.{role_in}
use Rattle.range_terms.specs.WrittenTerms.{WrittenTerm, WrittenVersion, terms_of, version_at, written_term}
use Rattle.range_terms.proofs.LowBytes.{is_low, partial_low, word_low}
use Rattle.range_terms.proofs.Places.{AllPlaces, ArePlaces, AreWordsOf, IsPlace, IsWordOf}

same_role : (o : Operator) → is_of_term o ≡ true → role_in o ≡ after_operator o
same_role Hyphen e = cc
same_role _ e = refl

-- only the operator of a term is written
is_written : (g : Grammar) (o : Operator) (sign : Text) → SpellsOperator g o sign → is_of_term o ≡ true
is_written g Hyphen sign h = absurd h
is_written g _ sign h = refl

begins_same : (w u : Text) → starts is_word_byte w ≡ true → begins_with 118 (w ++ u) ≡ begins_with 118 w
begins_same [] u e = cc
begins_same (b ∷ w) u e = refl

some_bytes : (t : Text) → starts is_word_byte t ≡ true → 0 < length t
some_bytes [] e = cc
some_bytes (b ∷ t) e = omega arith

of_upper : (Is : WrittenVersion → Type 0) (x v : WrittenVersion) → Some x ≡ Some v → Is x → Is v
of_upper Is x v is w = let same : x ≡ v = cc in subst Is same w

-- a comparator of Cargo that states a number
abbrev pub IsComparator : Text → Type 0
IsComparator t = (s : Simple) × SpellsComparator s t × (states_nothing s.partial ≡ false)

abbrev pub MayStand : Role → PartialTree → Text → Type 0
MayStand role p word = SpellsPartial p word × IsTrue (is_partial_of_cargo p && not (states_nothing p))

abbrev pub IsWordOfCargo : Role → PartialTree → Text → Type 0
IsWordOfCargo role p word = SpellsPartial p word × (is_partial_of_cargo p ≡ true)

abbrev pub states_none : List Simple → Bool
states_none ss = list_any (λ s. states_nothing s.partial) ss

-- the text is as many comparators as the tree has; if each comparator of the tree states a number,
-- so does each of these
abbrev pub AreComparators : List Simple → Text → Type 0
AreComparators tree t = (made : List Simple) × SpellsComparators made t × (length made ≡ length tree)
    × (states_none tree ≡ false → states_none made ≡ false)

abbrev pub AreRanges : Grammar → Text → Type 0
AreRanges g t = (tree : SetTree) × SpellsRangeIn g tree t

-- a word of a text, which `after` follows
abbrev word_before : PartialTree → Text → Text → FoundWord
word_before p word after = record { partial = p; from = word ++ after; after = after }

module _ (whole : Text) (Good : Text → Type 0) where
  -- a piece of the whole text, which `after` follows. With another such piece instead, the text is
  -- `Good`
  pub record Piece (Is : Text → Type 0) (t after : Text) : Type 0 where
    pub before : Text
    pub text : whole ≡ before ++ (t ++ after)
    pub again : (u : Text) → Is u → Good (before ++ (u ++ after))

  inside : {Is Is' : Text → Type 0} {t after : Text} → Piece Is t after → (front u back : Text) → t ≡ front ++ (u ++ back) → (after' : Text)
      → after' ≡ back ++ after → ((v : Text) → Is' v → Is (front ++ (v ++ back))) → Piece Is' u after'
  inside {after = after} b front u back e after' f more = rw f (record {
    before = b.before ++ front;
    text = b.text ∙ ap (λ x. b.before ++ (x ++ after)) e ∙ assoc b.before front u back after;
    again = λ v is. subst Good (assoc b.before front v back after) (b.again (front ++ (v ++ back)) (more v is));
  })
    where
      assoc : (a b c d e : Text) → a ++ ((b ++ (c ++ d)) ++ e) ≡ (a ++ b) ++ (c ++ (d ++ e))
      assoc a b c d e = simp append_assoc

  -- ---- terms

  module _ (May Spelled : Role → PartialTree → Text → Type 0) where
    -- the words of a term may be replaced
    pub record Told (x : WrittenTerm) : Type 0 where
      pub places : ArePlaces Good May whole x
      pub words : AreWordsOf Spelled x

    abbrev pub AllTold : List Item → Type 0
    AllTold [] = Unit {0}
    AllTold (one_term x ∷ xs) = ((k : ℕ) → Told (written_term (length whole) k x)) × AllTold xs
    AllTold (_ ∷ xs) = AllTold xs

    pub places_told : (k : ℕ) (xs : List Item) → AllTold xs → AllPlaces Good May whole (terms_of (length whole) k xs)
    places_told k [] all = tt
    places_told k (one_term x ∷ xs) (told, all) = ((told k).places, places_told k xs all)
    places_told k (empty_range ∷ xs) all = places_told k xs all
    places_told k (two_bars ∷ xs) all = places_told (suc k) xs all

    pub words_told : (k : ℕ) (xs : List Item) → AllTold xs → AllByRecursion (AreWordsOf Spelled) (terms_of (length whole) k xs)
    words_told k [] all = tt
    words_told k (one_term x ∷ xs) (told, all) = ((told k).words, words_told k xs all)
    words_told k (empty_range ∷ xs) all = words_told k xs all
    words_told k (two_bars ∷ xs) all = words_told (suc k) xs all

    joined : (xs ys : List Item) → AllTold xs → AllTold ys → AllTold (xs ++ ys)
    joined [] ys all rest = rest
    joined (one_term x ∷ xs) ys (told, all) rest = (told, joined xs ys all rest)
    joined (empty_range ∷ xs) ys all rest = joined xs ys all rest
    joined (two_bars ∷ xs) ys all rest = joined xs ys all rest

    -- another word that may stand there
    abbrev Words : Role → Text → Type 0
    Words role w = (p : PartialTree) × May role p w

    module _ (role : Role) (p : PartialTree) (w after : Text) (some : starts is_word_byte w ≡ true) where
      place : list_all is_low w ≡ true → Piece (Words role) w after
          → IsPlace Good (May role) whole (version_at (length whole) (word_before p w after)).span
      place low b =
          let long : length whole ≡ length b.before + (length w + length after) =
          ap length b.text ∙ simp length-append in
          record {
            before = b.before;
            word = w;
            after = after;
            text = b.text;
            some = some_bytes w some;
            low = low;
            start = omega (arith, long, length-append w after);
            end = omega (arith, long);
            again = λ p u may. b.again u (p, may);
          }

      word : Spelled role p w → IsWordOf (Spelled role) (version_at (length whole) (word_before p w after))
      word spelled = record { tree = p; word = w; is = rw (begins_same w after some) refl; spelled = spelled }

    -- a term of one word
    one : (s : Simple) (from w after : Text) → is_of_term s.operator ≡ true → starts is_word_byte w ≡ true → list_all is_low w ≡ true → Spelled (after_operator s.operator) s.partial w
        → Piece (Words (after_operator s.operator)) w after
        → AllTold (one_term (record { from = from; operator = s.operator; version = word_before s.partial w after; upper = None }) ∷ [])
    one s from w after term some low spelled b = (
      λ k. record {
        places = record {
          version = rw (same_role s.operator term) (place (after_operator s.operator) s.partial w after some low b);
          upper = λ v is. cc;
        };
        words = record {
          version = rw (same_role s.operator term) (word (after_operator s.operator) s.partial w after some spelled);
          upper = λ v is. cc;
        };
      },
      tt,
    )

  -- ---- the terms of ranges, in the grammar of the crate and in npm's

  module _ (g : Grammar) where
    abbrev Word : Role → PartialTree → Text → Type 0
    Word role p w = SpellsWord g role p w

    abbrev Are : List Item → Type 0
    Are xs = AllTold Word Word xs

    simple : (s : Simple) (t after : Text) (spelled : SpellsSimple g s t) → Piece (λ t. (s : Simple) × SpellsSimple g s t) t after
        → Are (simple_item g s t after spelled ∷ [])
    simple s t after (front, w, operator, spelled, text) b =
        let role = after_operator s.operator in
        one Word Word s (t ++ after) w after (is_written g s.operator front operator) (word_starts g role s.partial w spelled) (word_low g role s.partial w spelled) spelled
        (inside b front w [] (text ∙ ap (λ u. front ++ u) (sym (append-nil w))) after refl
        (λ v is. (record { operator = s.operator; partial = is.0 }, (front, v, operator, is.1, ap (λ u. front ++ u) (append-nil v)))))

    some : (first : Simple) (others : List Simple) (t after : Text) (spelled : SpellsSimples g first others t)
        → Piece (λ t. (first : Simple) × (others : List Simple) × SpellsSimples g first others t) t after
        → Are (simples_items g first others t after spelled)
    some first [] t after spelled b = simple first t after spelled (inside b [] t [] (sym (append-nil t)) after refl
        (λ v is. (is.0, [], subst (λ u. SpellsSimple g is.0 u) (sym (append-nil v)) is.1)))
    some first (next ∷ others) t after (front, gap, back, spelled, blanks, later, text) b =
        joined Word Word (simple_item g first front (gap ++ (back ++ after)) spelled ∷ []) (simples_items g next others back after later)
        (simple first front (gap ++ (back ++ after)) spelled
        (inside b [] front (gap ++ back) (text ∙ append_assoc front gap back) (gap ++ (back ++ after)) (sym (append_assoc gap back after))
        (λ v is. (is.0, next ∷ others, (v, gap, back, is.1, blanks, later, sym (append_assoc v gap back))))))
        (some next others back after later
        (inside b (front ++ gap) back [] (text ∙ ap (λ u. (front ++ gap) ++ u) (sym (append-nil back))) after refl
        (λ v are. (first, are.0 ∷ are.1, (front, gap, v, spelled, blanks, are.2, ap (λ u. (front ++ gap) ++ u) (append-nil v))))))

    range : (r : RangeTree) (t after : Text) (spelled : SpellsRange g r t) → Piece (λ t. (r : RangeTree) × SpellsRange g r t) t after
        → Are (range_items g r t after spelled)
    range empty t after spelled b = tt
    range (simples first others) t after spelled b =
        some first others t after spelled (inside b [] t [] (sym (append-nil t)) after refl
        (λ v are. (simples are.0 are.1, subst (λ u. SpellsSimples g are.0 are.1 u) (sym (append-nil v)) are.2)))
    range (hyphen left right) t after (l, gap, gap', r, spelled, blanks, blanks', spelled', text) b =
        let middle = gap ++ (45 ∷ gap') in
        let follows = gap ++ (45 ∷ (gap' ++ (r ++ after))) in
        let text : t ≡ l ++ (middle ++ r) = text ∙ simp append_assoc in
        let made : (p p' : PartialTree) (w w' : Text) → SpellsWord g (after_operator Bare) p w → SpellsWord g after_hyphen p' w'
        → (x : RangeTree) × SpellsRange g x (w ++ (middle ++ w')) =
        λ p p' w w' h h'. (hyphen p p', (w, gap, gap', w', h, blanks, blanks', h', simp append_assoc)) in
        let first : Piece (Words Word Word (after_operator Bare)) l follows =
        inside b [] l (middle ++ r) text follows (simp append_assoc) (λ v is. made is.0 right v r is.1 spelled') in
        let second : Piece (Words Word Word after_hyphen) r after =
        inside b (l ++ middle) r [] (text ∙ join l middle r) after refl
        (λ v is. subst (λ u. (x : RangeTree) × SpellsRange g x u) (join l middle v) (made left is.0 l v spelled is.1)) in
        let starts = word_starts g (after_operator Bare) left l spelled in
        let starts' = word_starts g after_hyphen right r spelled' in (
          λ k. record {
            places = record {
              version = place Word Word (after_operator Bare) left l follows starts (word_low g (after_operator Bare) left l spelled) first;
              upper = λ v is. of_upper (λ v. IsPlace Good (Word after_hyphen) whole v.span) _ v is
                  (place Word Word after_hyphen right r after starts' (word_low g after_hyphen right r spelled') second);
            };
            words = record {
              version = word Word Word (after_operator Bare) left l follows starts spelled;
              upper = λ v is. of_upper (IsWordOf (Word after_hyphen)) _ v is (word Word Word after_hyphen right r after starts' spelled');
            };
          },
          tt,
        )
      where
        join : (l middle w : Text) → l ++ (middle ++ w) ≡ (l ++ middle) ++ (w ++ [])
        join l middle w = ap (λ u. l ++ (middle ++ u)) (sym (append-nil w)) ∙ sym (append_assoc l middle (w ++ []))

    padded : (r : RangeTree) (t after : Text) (spelled : SpellsPadded g r t) → Piece (λ t. (r : RangeTree) × SpellsPadded g r t) t after
        → Are (padded_items g r t after spelled)
    padded r t after (before, inner, gap, blanks, spelled, blanks', text) b =
        range r inner (gap ++ after) spelled (inside b before inner gap (text ∙ append_assoc before inner gap) (gap ++ after) refl
        (λ v is. (is.0, (before, v, gap, blanks, is.1, blanks', sym (append_assoc before v gap)))))

    pub ranges_told : (tree : SetTree) (t : Text) (spelled : SpellsRangeIn g tree t) → Piece (AreRanges g) t [] → Are (ranges_items g tree t spelled)
    ranges_told [] t spelled b = tt
    ranges_told (r ∷ []) t spelled b = padded r t [] spelled (inside b [] t [] (sym (append-nil t)) [] refl
        (λ v is. (is.0 ∷ [], subst (λ u. SpellsPadded g is.0 u) (sym (append-nil v)) is.1)))
    ranges_told (r ∷ next ∷ others) t (front, back, spelled, later, text) b =
        let bars = codes "||" in
        joined Word Word (padded_items g r front (bars ++ back) spelled) (two_bars ∷ ranges_items g (next ∷ others) back later)
        (padded r front (bars ++ back) spelled (inside b [] front (bars ++ back) (text ∙ append_assoc front bars back) (bars ++ back)
        (sym (append-nil (bars ++ back))) (λ v is. (is.0 ∷ next ∷ others, (v, back, is.1, later, sym (append_assoc v bars back))))))
        (ranges_told (next ∷ others) back later
        (inside b (front ++ bars) back [] (text ∙ ap (λ u. (front ++ bars) ++ u) (sym (append-nil back))) [] refl onto))
      where
        onto : (v : Text) → AreRanges g v → AreRanges g ((front ++ codes "||") ++ (v ++ []))
        onto v ([], h) = absurd h
        onto v (first ∷ rest, h) = (r ∷ first ∷ rest, (front, v, spelled, h, ap (λ u. (front ++ codes "||") ++ u) (append-nil v)))

  -- ---- the comparators of a requirement

  comparator : (s : Simple) (t after : Text) (spelled : SpellsComparator s t) → Piece IsComparator t after
      → AllTold MayStand IsWordOfCargo (one_term (comparator_term s t after spelled) ∷ [])
  comparator s t after spelled b =
      let read = and_parts (is_of_term s.operator) _ spelled.is_read in
      one MayStand IsWordOfCargo s _ spelled.word (spelled.after ++ after) read.0
      (component_word spelled.word (partial_starts s.partial spelled.word spelled.partial)) (partial_low s.partial spelled.word spelled.partial)
      (spelled.partial, (and_parts (is_partial_of_cargo s.partial) _ read.1).0)
      (inside b (spelled.before ++ (sign s.operator ++ spelled.gap)) spelled.word spelled.after (spelled.text ∙ simp append_assoc)
      (spelled.after ++ after) refl (λ w may. made w may.0 may.1))
    where
      assoc : (a b c w d : Text) → (a ++ (b ++ c)) ++ (w ++ d) ≡ a ++ (b ++ (c ++ (w ++ d)))
      assoc a b c w d = simp append_assoc

      made : (w : Text) (p : PartialTree) → MayStand (after_operator s.operator) p w
          → IsComparator ((spelled.before ++ (sign s.operator ++ spelled.gap)) ++ (w ++ spelled.after))
      made w p may =
          let parts = and_parts (is_partial_of_cargo p) (not (states_nothing p)) may.1 in
          let other : Simple = record { operator = s.operator; partial = p } in (
            other,
            record {
              before = spelled.before;
              gap = spelled.gap;
              word = w;
              after = spelled.after;
              before_is = spelled.before_is;
              gap_is = spelled.gap_is;
              after_is = spelled.after_is;
              partial = may.0;
              is_read = and_from (is_of_term s.operator) _ (and_parts (is_of_term s.operator) _ spelled.is_read).0
                  (and_from (is_partial_of_cargo p) (is_every other || not (states_nothing p)) parts.0 (or_right _ _ parts.1));
              text = assoc spelled.before (sign s.operator) spelled.gap w spelled.after;
            },
            not-true _ parts.1,
          )

  pub comparators_told : (tree : List Simple) (t : Text) (spelled : SpellsComparators tree t) → Piece (AreComparators tree) t []
      → AllTold MayStand IsWordOfCargo (comparators_items tree t spelled)
  comparators_told [] t spelled b = tt
  comparators_told (s ∷ []) t spelled b = comparator s t [] spelled (inside b [] t [] (sym (append-nil t)) [] refl
      (λ v is. (is.0 ∷ [], subst (λ u. SpellsComparator is.0 u) (sym (append-nil v)) is.1, refl, λ none. rw is.2 refl)))
  comparators_told (s ∷ next ∷ others) t (front, back, spelled, later, text) b =
      let comma = codes "," in
      joined MayStand IsWordOfCargo (one_term (comparator_term s front (comma ++ back) spelled) ∷ []) (comparators_items (next ∷ others) back later)
      (comparator s front (comma ++ back) spelled (inside b [] front (comma ++ back) text (comma ++ back) (sym (append-nil (comma ++ back)))
      (λ v is. (is.0 ∷ next ∷ others, (v, back, is.1, later, refl), refl, λ none. rw is.2 (or_parts _ _ none).1))))
      (comparators_told (next ∷ others) back later
      (inside b (front ++ comma) back [] (text ∙ simp (append_assoc, append-nil)) [] refl onto))
    where
      onto : (v : Text) → AreComparators (next ∷ others) v → AreComparators (s ∷ next ∷ others) ((front ++ codes ",") ++ (v ++ []))
      onto v ([], h, same, none) = absurd h
      onto v (first ∷ rest, h, same, none) = (
        s ∷ first ∷ rest,
        (front, v, spelled, h, simp (append_assoc, append-nil)),
        ap suc same,
        λ all. let parts = or_parts (states_nothing s.partial) (states_none (next ∷ others)) all in rw (parts.0, none parts.1) refl,
      )

-- ---- the whole text

pub all_of : (Is : Text → Type 0) (t : Text) → Piece t Is Is t []
all_of Is t = record { before = []; text = sym (append-nil t); again = λ u is. subst Is (sym (append-nil u)) is }

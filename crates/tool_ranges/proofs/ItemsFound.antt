-- Reading a range text from left to right finds the items of its tree, and the cursor gives these.
use Rattle.std.proofs.Common.{◌≡◌, ℕ, ◌≤◌, length, Bool, true, false, List, [], ◌∷◌, ◌++◌, refl, sym, ap, ◌∙◌}
use Rattle.std.proofs.Common.{Some, append_assoc, append-nil, codes}
use Rattle.std.proofs.Math.Bool.{and-false}
use Rattle.std.proofs.lemmas.Bool.{and_from, and_parts, not_from_false}
use Rattle.std.proofs.lemmas.List.Folds.{list_all-append}
use Rattle.semver_texts.specs.Texts.{Text, begins_with}
use Rattle.semver_texts.specs.declared.grammar.Grammar.{Grammar}
use Rattle.semver_texts.specs.declared.grammar.Grammar.TheVariants as grammar
use Rattle.semver_ranges.specs.CargoGrammar.{comparators_of, is_cargo}
use Rattle.semver_ranges.specs.declared.operator.Operator.TheVariants.{Bare, Hyphen}
use Rattle.semver_ranges.specs.RangeTree.{AreBlanks, PartialTree, after_operator, after_hyphen, is_blank, RangeTree, SetTree, Simple, empty}
use Rattle.semver_ranges.specs.RangeTree.{hyphen, simples, SpellsSimple, SpellsSimples, SpellsRange, SpellsPadded, SpellsRangeIn}
use Rattle.semver_ranges.specs.RangeTree.{SpellsOperator, SpellsWord}
use Rattle.semver_ranges.specs.TextItems.{FoundTerm, Item, empty_range, one_term, two_bars}
use Rattle.semver_ranges.specs.declared.cursor.Event.TheVariants.{Term}
use Rattle.semver_ranges.specs.declared.term.RawTerm.{RawTerm}
use Rattle.semver_ranges.specs.Steps.Items.{IsItemOf, IsTermOf}
use Rattle.semver_ranges.specs.Steps.FoundItems.{item, items_left, upper_word, word_at}
use Rattle.semver_ranges.specs.Steps.Reading.{after_blanks, ends_range, ends_word, operator_at}
use Rattle.semver_ranges.proofs.ReadingComplete.{blanks_end, end_no_hyphen, end_stops, gap_ends, right_read}
use Rattle.semver_ranges.proofs.ReadingComplete.{simple_no_end, simple_no_hyphen, simple_starts, simple_stops, simples_start}
use Rattle.semver_ranges.proofs.ItemSteps.{left_next}
use Rattle.semver_ranges.proofs.ReadingPieces.{is_word_byte, starts-append, word_starts}
use Rattle.semver_ranges.proofs.WrittenPieces.{blanks_after, no_blank, no_blank_byte, operator_read, partial_read, simple_read, stops}
use Rattle.tool_ranges.specs.Dialects.{SpellsAs}
use Rattle.semver_ranges.specs.DialectTable.{grammar_of}
use Rattle.tool_ranges.specs.SpelledItems.{items_in, padded_items, range_items, ranges_items, simple_item, simples_items}
use Rattle.semver_ranges.specs.declared.dialect.Dialect.{Dialect}
use Rattle.semver_ranges.specs.declared.dialect.Dialect.TheVariants.{Cargo, Npm}
use Rattle.tool_ranges.proofs.Comparators.{comparators_complete}

module _ (d : Grammar) where
  -- the word of a term, after its operator
  term_word : (s : Simple) (sign word u : Text) → SpellsOperator d s.operator sign
      → SpellsWord d (after_operator s.operator) s.partial word → ends_word d u ≡ true
      → word_at d (after_operator (operator_at d (sign ++ (word ++ u))).0) (operator_at d (sign ++ (word ++ u))).1
      ≡ Some (record { partial = s.partial; from = word ++ u; after = u })
  term_word s sign word u operator spelled ends = rw (
    operator_read d s.operator sign (word ++ u) operator (starts-append is_word_byte word u (word_starts d (after_operator s.operator) s.partial word spelled)),
    partial_read d (after_operator s.operator) s.partial word u spelled ends,
  ) refl

  hyphen_stops : (left right : PartialTree) (t u : Text) → SpellsRange d (hyphen left right) t → stops (is_blank d) (t ++ u) ≡ true
  hyphen_stops left right t u (l, gap, gap', r, spelled, g, g', spelled', whole) =
      rw whole (simp append_assoc (no_blank d (l ++ (gap ++ (45 ∷ (gap' ++ (r ++ u)))))
      (starts-append is_word_byte l _ (word_starts d (after_operator Bare) left l spelled))))

  module _ (ranges : is_cargo d ≡ false) where
    -- a term that is followed by blanks, and then by text without a blank or a hyphen at its
    -- beginning
    simple_found : (begins : Bool) (s : Simple) (t gap u : Text) (spelled : SpellsSimple d s t) → AreBlanks d gap
        → ends_word d (gap ++ u) ≡ true → stops (is_blank d) u ≡ true → begins_with 45 u ≡ false
        → items_left d begins (t ++ (gap ++ u)) ≡ simple_item d s t (gap ++ u) spelled ∷ items_left d false u
    simple_found begins s t gap u (sign, word, operator, spelled, whole) g ends stop dash =
        let rest = gap ++ u in
        let here : SpellsSimple d s t = (sign, word, operator, spelled, whole) in
        let text : t ++ rest ≡ sign ++ (word ++ rest) = rw whole (append_assoc sign word rest) in
        let found : item d begins (t ++ rest) ≡ Some (simple_item d s t rest here, u) = rw (
          ranges,
          simple_no_end (t ++ rest) (simple_starts d s t rest here),
          simple_read d s t gap u here g ends stop,
          text,
          term_word s sign word rest operator spelled ends,
          dash,
          and-false begins,
        ) refl in
        left_next d begins (t ++ rest) _ found

    -- one or more terms, up to the end of their range
    simples_found : (begins : Bool) (first : Simple) (others : List Simple) (t blanks u : Text)
        (spelled : SpellsSimples d first others t) → AreBlanks d blanks → ends_range u ≡ true
        → items_left d begins (t ++ (blanks ++ u)) ≡ simples_items d first others t (blanks ++ u) spelled ++ items_left d false u
    simples_found begins first [] t blanks u spelled b e =
        simple_found begins first t blanks u spelled b (blanks_end d blanks u b e) (end_stops d u e) (end_no_hyphen u e)
    simples_found begins first (next ∷ others) t blanks u (head, gap, tail, spelled, g, more, whole) b e =
        let rest = tail ++ (blanks ++ u) in
        let starts = simples_start d next others tail (blanks ++ u) more in
        let text : t ++ (blanks ++ u) ≡ head ++ (gap ++ rest) = rw whole (simp append_assoc) in
        ap (items_left d begins) text
        ∙ simple_found begins first head gap rest spelled g.1 (gap_ends d gap rest g) (simple_stops d rest starts) (simple_no_hyphen rest starts)
        ∙ ap (λ xs. simple_item d first head (gap ++ rest) spelled ∷ xs) (simples_found false next others tail blanks u more b e)

    -- a hyphen range
    hyphen_found : (left right : PartialTree) (t blanks u : Text) (spelled : SpellsRange d (hyphen left right) t)
        → AreBlanks d blanks → ends_range u ≡ true
        → items_left d true (t ++ (blanks ++ u)) ≡ range_items d (hyphen left right) t (blanks ++ u) spelled ++ items_left d false u
    hyphen_found left right t blanks u (l, gap, [], r, spelled, g, (some, g'), spelled', whole) b e = cc
    hyphen_found left right t blanks u (l, gap, c ∷ gap', r, spelled, g, g', spelled', whole) b e =
        let rest = blanks ++ u in
        let after = 45 ∷ ((c ∷ gap') ++ (r ++ rest)) in
        let s : Simple = record { operator = Bare; partial = left } in
        let here : SpellsSimple d s l = ([], l, refl, spelled, refl) in
        let text : t ++ rest ≡ l ++ (gap ++ after) = rw whole (simp append_assoc) in
        let right_word : upper_word d after ≡ Some (record { partial = right; from = r ++ rest; after = rest }) = rw (
          blanks_after d gap' (r ++ rest) (and_parts (is_blank d c) _ g'.1).1
              (no_blank d (r ++ rest) (starts-append is_word_byte r rest (word_starts d after_hyphen right r spelled'))),
          partial_read d after_hyphen right r rest spelled' (blanks_end d blanks u b e),
        ) refl in
        let found : item d true (l ++ (gap ++ after)) ≡ Some (
          one_term (record {
            from = l ++ (gap ++ after);
            operator = Hyphen;
            version = record { partial = left; from = l ++ (gap ++ after); after = gap ++ after };
            upper = Some (record { partial = right; from = r ++ rest; after = rest });
          }),
          u,
        ) = rw (
          ranges,
          simple_no_end (l ++ (gap ++ after)) (simple_starts d s l (gap ++ after) here),
          simple_read d s l gap after here g.1 (gap_ends d gap after g) (not_from_false _ (no_blank_byte d 45 refl)),
          term_word s [] l (gap ++ after) refl spelled (gap_ends d gap after g),
          right_read d right (c ∷ gap') r blanks u g' spelled' b e,
          right_word,
        ) refl in
        rw text (left_next d true (l ++ (gap ++ after)) _ found)

    -- a range with blanks around it
    range_found : (r : RangeTree) (before t blanks u : Text) (spelled : SpellsRange d r t) → AreBlanks d before
        → AreBlanks d blanks → ends_range u ≡ true
        → items_left d true (after_blanks d (before ++ (t ++ (blanks ++ u)))) ≡ range_items d r t (blanks ++ u) spelled ++ items_left d false u
    range_found empty before t blanks u spelled h b e =
        let all : AreBlanks d (before ++ blanks) = list_all-append (is_blank d) before blanks ∙ and_from _ _ h b in
        let text : before ++ (t ++ (blanks ++ u)) ≡ (before ++ blanks) ++ u = rw spelled (sym (append_assoc before blanks u)) in
        let end : after_blanks d (before ++ (t ++ (blanks ++ u))) ≡ u = rw text (blanks_after d (before ++ blanks) u all (end_stops d u e)) in
        rw end (left_next d true u (Some (empty_range, u)) (rw (ranges, e) refl))
    range_found (hyphen left right) before t blanks u spelled h b e =
        rw (blanks_after d before (t ++ (blanks ++ u)) h (hyphen_stops left right t (blanks ++ u) spelled))
        (hyphen_found left right t blanks u spelled b e)
    range_found (simples first others) before t blanks u spelled h b e =
        let begins = simples_start d first others t (blanks ++ u) spelled in
        rw (blanks_after d before (t ++ (blanks ++ u)) h (simple_stops d (t ++ (blanks ++ u)) begins))
        (simples_found true first others t blanks u spelled b e)

    padded_found : (r : RangeTree) (t u : Text) (spelled : SpellsPadded d r t) → ends_range u ≡ true
        → items_left d true (after_blanks d (t ++ u)) ≡ padded_items d r t u spelled ++ items_left d false u
    padded_found r t u (before, inner, blanks, h, spelled, b, whole) e =
        let text : t ++ u ≡ before ++ (inner ++ (blanks ++ u)) = rw whole (simp append_assoc) in
        rw text (range_found r before inner blanks u spelled h b e)

  -- ranges that are separated by `||`
  ranges_found : is_cargo d ≡ false → (tree : SetTree) (t : Text) (spelled : SpellsRangeIn d tree t)
      → items_left d true (after_blanks d t) ≡ ranges_items d tree t spelled
  ranges_found ranges [] t spelled = absurd spelled
  ranges_found ranges (r ∷ []) t spelled =
      ap (λ t. items_left d true (after_blanks d t)) (sym (append-nil t)) ∙ padded_found ranges r t [] spelled refl ∙ append-nil _
  ranges_found ranges (r ∷ next ∷ others) t (head, tail, spelled, more, whole) =
      let rest = 124 ∷ 124 ∷ tail in
      let text : t ≡ head ++ rest = whole ∙ append_assoc head (codes "||") tail in
      ap (λ t. items_left d true (after_blanks d t)) text ∙ padded_found ranges r head rest spelled refl
      ∙ ap (λ xs. padded_items d r head rest spelled ++ xs)
      (left_next d false rest (Some (two_bars, after_blanks d tail)) (rw ranges refl)
      ∙ ap (λ xs. two_bars ∷ xs) (ranges_found ranges (next ∷ others) tail more))

-- the items that a cursor has left at the beginning of a text
abbrev pub found_items : Dialect → Text → List Item
found_items d t = items_left (grammar_of d) true (after_blanks (grammar_of d) t)

pub items_found : (d : Dialect) (tree : SetTree) (t : Text) (spelled : SpellsAs d tree t) → found_items d t ≡ items_in d tree t spelled
items_found Cargo tree t spelled =
    (comparators_complete true t (after_blanks grammar.Cargo t) (comparators_of tree) spelled.comparators (refl, refl) (λ e. cc) spelled.alone).1
items_found Npm tree t spelled = ranges_found grammar.Npm refl tree t spelled.spelled
items_found d tree t spelled = ranges_found grammar.Crate refl tree t spelled

-- the term of the item that a cursor gives
pub term_first : (g : Grammar) (m : ℕ) (x : Item) (term : RawTerm) → IsItemOf g m x (Term term)
    → (y : FoundTerm) × (x ≡ one_term y) × IsTermOf g y term × (length y.from ≤ m)
term_first g m (one_term y) term is = (y, refl, is.0, is.1)
term_first g m _ term is = absurd is

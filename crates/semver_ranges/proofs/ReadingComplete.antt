-- The reader finds the tree that spells a text.
use Rattle.std.proofs.Common.{◌≡◌, ℕ, Bool, true, false, ◌||◌, ◌==◌, List, [], ◌∷◌, ◌++◌, refl, ap, ◌∙◌, inl, inr, Some}
use Rattle.std.proofs.Common.{append_assoc, append-nil, arith}
use Rattle.std.proofs.lemmas.Bool.{or_left, or_right, and_parts, eqb-true, not_from_false}
use Rattle.std.proofs.lemmas.Bool.Decides.{nat_tests}
use Rattle.semver_texts.specs.declared.grammar.Grammar.{Grammar}
use Rattle.semver_ranges.specs.declared.operator.Operator.{Operator}
use Rattle.semver_ranges.specs.declared.operator.Operator.TheVariants.{Bare, Tilde, Hyphen}
use Rattle.semver_ranges.specs.RangeTree.{PartialTree, Simple, RangeTree, after_operator, after_hyphen, empty, hyphen, simples, SetTree}
use Rattle.semver_ranges.specs.RangeTree.{is_blank, AreBlanks, AreSomeBlanks, SpellsWord, SpellsOperator, SpellsSimple, SpellsSimples}
use Rattle.semver_ranges.specs.RangeTree.{SpellsRange, SpellsPadded, SpellsRangeIn}
use Rattle.semver_texts.specs.Texts.{Text}
use Rattle.semver_ranges.specs.Steps.Reading.{after_blanks, ends_range, ends_word, simple}
use Rattle.semver_texts.specs.Texts.{begins_with}
use Rattle.semver_ranges.specs.Steps.Reading.{all_simples, right_side, range_here, range, after_range, read}
use Rattle.semver_ranges.proofs.ReadingPieces.{starts, starts-append, is_word_byte, word_starts}
use Rattle.semver_ranges.proofs.ReadingSteps.{simples_end, simples_step, read_step}
use Rattle.semver_ranges.proofs.WrittenPieces.{apart, is_written, no_blank_byte, stops, partial_read, blanks_after, no_blank, simple_read}

-- the first byte of a term: one that begins a word, or one of `=<>~^`
abbrev pub is_simple_byte : ℕ → Bool
is_simple_byte b = is_word_byte b || ((b == 61) || ((b == 60) || ((b == 62) || ((b == 126) || (b == 94)))))

pub word_simple : (t : Text) → starts is_word_byte t ≡ true → starts is_simple_byte t ≡ true
word_simple [] e = cc
word_simple (b ∷ t) e = or_left _ _ e

-- a term doesn't begin with a bar or a hyphen, and a range doesn't end at a hyphen
simple_written : (b : ℕ) → is_simple_byte b ≡ true → is_written b ≡ true
simple_written b e = grind (arith, nat_tests)

pub simple_no_end : (t : Text) → starts is_simple_byte t ≡ true → ends_range t ≡ false
simple_no_end [] e = cc
simple_no_end (b ∷ t) e = apart is_simple_byte b 124 e refl

pub simple_no_hyphen : (t : Text) → starts is_simple_byte t ≡ true → begins_with 45 t ≡ false
simple_no_hyphen [] e = cc
simple_no_hyphen (b ∷ t) e = apart is_simple_byte b 45 e refl

pub end_no_hyphen : (t : Text) → ends_range t ≡ true → begins_with 45 t ≡ false
end_no_hyphen [] e = refl
end_no_hyphen (b ∷ t) e = grind (arith, nat_tests)

module _ (d : Grammar) where
  pub form_starts : (f : Operator) (sign t : Text) → SpellsOperator d f sign → starts is_word_byte t ≡ true
      → starts is_simple_byte (sign ++ t) ≡ true
  form_starts Bare sign t h e = rw h (word_simple t e)
  form_starts Hyphen sign t h e = absurd h
  form_starts Tilde sign t h e = elim h [ inl (blanks, h, text) ↦ rw text | inr (blanks, h, text) ↦ rw text ]
  form_starts _ sign t (blanks, h, text) e = rw text

  pub simple_starts : (s : Simple) (w u : Text) → SpellsSimple d s w → starts is_simple_byte (w ++ u) ≡ true
  simple_starts s w u (sign, text, operator, spelled, whole) =
      rw whole (starts-append is_simple_byte (sign ++ text) u
      (form_starts s.operator sign text operator (word_starts d (after_operator s.operator) s.partial text spelled)))

  pub simples_start : (first : Simple) (others : List Simple) (w u : Text) → SpellsSimples d first others w
      → starts is_simple_byte (w ++ u) ≡ true
  simples_start first [] w u h = simple_starts first w u h
  simples_start first (next ∷ others) w u (head, gap, tail, h, blanks, more, text) =
      rw text (simp append_assoc (simple_starts first head (gap ++ (tail ++ u)) h))

  pub simple_stops : (t : Text) → starts is_simple_byte t ≡ true → stops (is_blank d) t ≡ true
  simple_stops [] e = cc
  simple_stops (b ∷ t) e = not_from_false _ (no_blank_byte d b (simple_written b e))

  -- a range doesn't end at a blank
  pub end_stops : (t : Text) → ends_range t ≡ true → stops (is_blank d) t ≡ true
  end_stops [] e = refl
  end_stops (b ∷ t) e = rw (eqb-true b 124 e) (not_from_false _ (no_blank_byte d 124 refl))

  -- a word ends before any blanks at the end of its range, and before one or more blanks
  pub blanks_end : (blanks t : Text) → AreBlanks d blanks → ends_range t ≡ true → ends_word d (blanks ++ t) ≡ true
  blanks_end [] [] h e = refl
  blanks_end [] (b ∷ t) h e = or_right _ _ (or_left _ _ e)
  blanks_end (b ∷ blanks) t h e = grind arith

  pub gap_ends : (gap t : Text) → AreSomeBlanks d gap → ends_word d (gap ++ t) ≡ true
  gap_ends [] t (some, h) = cc
  gap_ends (b ∷ gap) t (some, h) = grind arith

  -- the reader finds a first term, and then the others
  record Simples (first : Simple) (others : List Simple) (t u : Text) : Type 0 where
    rest : Text
    head : simple d t ≡ Some (first, rest)
    tail : all_simples d rest ≡ Some (others, u)
    no_hyphen : begins_with 45 rest ≡ false

  simples_read : (first : Simple) (others : List Simple) (w blanks u : Text) → SpellsSimples d first others w → AreBlanks d blanks
      → ends_range u ≡ true → Simples first others (w ++ (blanks ++ u)) u
  simples_read first [] w blanks u h b e = record {
    rest = u;
    head = simple_read d first w blanks u h b (blanks_end blanks u b e) (end_stops u e);
    tail = simples_end d u e;
    no_hyphen = end_no_hyphen u e;
  }
  simples_read first (next ∷ others) w blanks u (head, gap, tail, h, g, more, text) b e =
      let rest = tail ++ (blanks ++ u) in
      let found = simples_read next others tail blanks u more b e in
      let begins = simples_start next others tail (blanks ++ u) more in
      record {
        rest = rest;
        head = rw text (simp append_assoc (simple_read d first head gap rest h g.1 (gap_ends gap rest g) (simple_stops rest begins)));
        tail = simples_step d rest (simple_no_end rest begins) ∙ rw (found.head, found.tail);
        no_hyphen = simple_no_hyphen rest begins;
      }

  -- the right side of a hyphen range
  pub right_read : (p : PartialTree) (gap w blanks u : Text) → AreSomeBlanks d gap → SpellsWord d after_hyphen p w → AreBlanks d blanks
      → ends_range u ≡ true → right_side d (45 ∷ (gap ++ (w ++ (blanks ++ u)))) ≡ Some (p, u)
  right_read p [] w blanks u (some, g) h b e = cc
  right_read p (c ∷ gap) w blanks u (some, g) h b e =
      let parts = and_parts (is_blank d c) _ g in
      rw (
        parts.0,
        blanks_after d gap (w ++ (blanks ++ u)) parts.1
            (no_blank d (w ++ (blanks ++ u)) (starts-append is_word_byte w _ (word_starts d after_hyphen p w h))),
        partial_read d after_hyphen p w (blanks ++ u) h (blanks_end blanks u b e),
        blanks_after d blanks u b (end_stops u e),
        e,
      )

  -- a range with blanks after it; below, with blanks on both sides
  range_here_read : (r : RangeTree) (inner blanks u : Text) → SpellsRange d r inner → AreBlanks d blanks → ends_range u ≡ true
      → range_here d (after_blanks d (inner ++ (blanks ++ u))) ≡ Some (r, u)
  range_here_read empty inner blanks u h b e = rw (h, blanks_after d blanks u b (end_stops u e), e)
  range_here_read (simples first others) inner blanks u h b e =
      let t = inner ++ (blanks ++ u) in
      let begins = simples_start first others inner (blanks ++ u) h in
      let found = simples_read first others inner blanks u h b e in
      rw (blanks_after d [] t refl (simple_stops t begins), simple_no_end t begins, found.head, found.no_hyphen, found.tail)
  range_here_read (hyphen left right) inner blanks u (l, gap, gap', r, h, g, g', h', text) b e =
      let s : Simple = record { operator = Bare; partial = left } in
      let spelled : SpellsSimple d s l = ([], l, refl, h, refl) in
      let rest = 45 ∷ (gap' ++ (r ++ (blanks ++ u))) in
      let t = l ++ (gap ++ rest) in
      let whole : inner ++ (blanks ++ u) ≡ t = rw text (simp append_assoc) in
      let begins = simple_starts s l (gap ++ rest) spelled in
      rw (
        whole,
        blanks_after d [] t refl (simple_stops t begins),
        simple_no_end t begins,
        simple_read d s l gap rest spelled g.1 (gap_ends gap rest g) (not_from_false _ (no_blank_byte d 45 refl)),
        right_read right gap' r blanks u g' h' b e,
      )

  after_more : (blanks t : Text) → AreBlanks d blanks → after_blanks d (blanks ++ t) ≡ after_blanks d t
  after_more [] t h = refl
  after_more (b ∷ blanks) t h = grind (arith, after_more blanks t)

  range_read : (r : RangeTree) (w u : Text) → SpellsPadded d r w → ends_range u ≡ true → range d (w ++ u) ≡ Some (r, u)
  range_read r w u (before, inner, blanks, h, spelled, b, text) e =
      rw text (simp append_assoc (rw (after_more before (inner ++ (blanks ++ u)) h) (range_here_read r inner blanks u spelled b e)))

  -- the reader finds each tree that spells a text
  pub tree_read : (tree : SetTree) (t : Text) → SpellsRangeIn d tree t → read d t ≡ Some tree
  tree_read [] t h = absurd h
  tree_read (r ∷ []) t h = read_step d t ∙ ap (after_range (read d)) (rw append-nil at (range_read r t [] h refl))
  tree_read (r ∷ next ∷ others) t (head, tail, h, more, text) =
      read_step d t ∙ rw (text, append_assoc, range_read r head (124 ∷ 124 ∷ tail) h refl, tree_read (next ∷ others) tail more)

  -- two trees that spell the same text are equal
  pub same_tree : (tree tree' : SetTree) (t : Text) → SpellsRangeIn d tree t → SpellsRangeIn d tree' t → tree ≡ tree'
  same_tree tree tree' t h h' = cc (tree_read tree t h, tree_read tree' t h')

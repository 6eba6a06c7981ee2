-- The tree that the reader finds spells the text.
use Rattle.std.proofs.Common.{◌≡◌, ℕ, zero, suc, true, false, ◌&&◌, ◌==◌, List, [], ◌∷◌, ◌++◌, codes, length, refl, sym, ◌∙◌}
use Rattle.std.proofs.Common.{Option, Some, None, append_assoc, append-nil, subst}
use Rattle.std.proofs.lemmas.Bool.{and_parts, and_from, eqb-true}
use Rattle.std.proofs.Common.{arith}
use Rattle.std.proofs.lemmas.Bool.Decides.{nat_tests}
use Rattle.semver_texts.specs.declared.grammar.Grammar.{Grammar}
use Rattle.semver_texts.specs.declared.grammar.Grammar.TheVariants.{Crate, Cargo, Npm}
use Rattle.semver_ranges.specs.declared.operator.Operator.{Operator}
use Rattle.semver_ranges.specs.declared.operator.Operator.TheVariants.{Bare}
use Rattle.semver_ranges.specs.RangeTree.{PartialTree, Simple, RangeTree, after_operator, after_hyphen, is_bare, SetTree, is_blank, AreBlanks}
use Rattle.semver_ranges.specs.RangeTree.{AreSomeBlanks, SpellsWord, SpellsOperator, SpellsSimple, SpellsSimples, SpellsRange, SpellsPadded}
use Rattle.semver_ranges.specs.RangeTree.{SpellsRangeIn}
use Rattle.semver_texts.specs.Texts.{Text}
use Rattle.semver_ranges.specs.Steps.Reading.{front, after_blanks, ends_range, put_before, simple}
use Rattle.semver_texts.specs.Texts.{begins_with}
use Rattle.semver_ranges.specs.Steps.Reading.{after_simple, some_simples, range_end, right_side, with_right}
use Rattle.semver_ranges.specs.Steps.Reading.{with_others, after_first, range_here, after_bars, onto, more_ranges, after_range}
use Rattle.semver_ranges.specs.Steps.Reading.{some_ranges, read}
use Rattle.semver_ranges.proofs.ReadingPieces.{front-back, front_all, WordAt, partial_sound, IsGap, SimpleAt, simple_sound}
use Rattle.semver_texts.proofs.Lists.{by_test}

-- the text of a term without an operator is a word
form_bare : (f : Operator) → is_bare f ≡ true → f ≡ Bare
form_bare Bare e = refl
form_bare _ e = cc

bare_partial : (d : Grammar) (s : Simple) (w : Text) → is_bare s.operator ≡ true → SpellsSimple d s w
    → SpellsWord d (after_operator Bare) s.partial w
bare_partial d s w e (sign, text, operator, spelled, whole) =
    let nothing : sign ≡ [] = subst (λ f. SpellsOperator d f sign) (form_bare s.operator e) operator in
    rw (whole, nothing) (subst (λ f. SpellsWord d (after_operator f) s.partial text) (form_bare s.operator e) spelled)

-- no term begins with a comma
no_comma : (d : Grammar) (t : Text) → begins_with 44 t ≡ true → simple d t ≡ None
no_comma d [] e = cc
no_comma Crate (b ∷ t) e = rw (eqb-true b 44 e) refl
no_comma Cargo (b ∷ t) e = rw (eqb-true b 44 e) refl
no_comma Npm (b ∷ t) e = rw (eqb-true b 44 e) refl

hyphen_no_comma : (t : Text) → begins_with 45 t ≡ true → begins_with 44 t ≡ false
hyphen_no_comma [] e = cc
hyphen_no_comma (b ∷ t) e = grind (arith, nat_tests)

-- a range doesn't end at a hyphen
no_end : (t : Text) → begins_with 45 t ≡ true → ends_range t ≡ false
no_end [] e = cc
no_end (b ∷ t) e = grind (arith, nat_tests)

-- if a rest is found, the text is two bars and that rest
abbrev BarsAt : Text → Option Text → Type 0
BarsAt t None = Unit {0}
BarsAt t (Some u) = t ≡ codes "||" ++ u

bars_sound : (t : Text) → BarsAt t (after_bars t)
bars_sound [] = tt
bars_sound (b ∷ []) = tt
bars_sound (b ∷ c ∷ t) = grind (arith, nat_tests)

module _ (d : Grammar) where
  -- if terms are found, the text begins with the spelling of s and these terms, with blanks after
  -- it
  abbrev SimplesAt : Simple → Text → Option (List Simple × Text) → Type 0
  SimplesAt s t None = Unit {0}
  SimplesAt s t (Some found) =
      (inner : Text) × (after : Text) × SpellsSimples d s found.0 inner × AreBlanks d after × (t ≡ inner ++ (after ++ found.1))

  -- the gap between two terms has at least one blank
  some_blanks : (gap t : Text) → IsGap d gap t → ends_range t ≡ false → begins_with 44 t ≡ false → AreSomeBlanks d gap
  some_blanks gap t h e n = grind arith

  put_sound : (s next : Simple) (w gap t : Text) (o : Option (List Simple × Text)) → SpellsSimple d s w → AreSomeBlanks d gap
      → SimplesAt next t o → SimplesAt s (w ++ (gap ++ t)) (put_before next o)
  put_sound s next w gap t None spelled blanks h = tt
  put_sound s next w gap t (Some found) spelled blanks (inner, after, more, ends, text) =
      (_, after, (w, gap, inner, spelled, blanks, more, refl), ends, rw text (simp append_assoc))

  next_sound : (s : Simple) (w gap t : Text) (f : Text → Option (List Simple × Text)) (o : Option (Simple × Text))
      → ((s : Simple) (w gap t : Text) → SpellsSimple d s w → IsGap d gap t → SimplesAt s (w ++ (gap ++ t)) (f t))
      → SpellsSimple d s w → IsGap d gap t → ends_range t ≡ false → simple d t ≡ o → SimpleAt d t o
      → SimplesAt s (w ++ (gap ++ t)) (after_simple f o)
  next_sound s w gap t f None h spelled parts on is found = tt
  next_sound s w gap t f (Some (next, u)) h spelled parts on is (w', gap', spelled', parts', text) = by_test (begins_with 44 t)
      (λ y. let no : None ≡ Some (next, u) = sym (no_comma d t y) ∙ is in cc)
      (λ n. put_sound s next w gap t (f u) spelled (some_blanks gap t parts on n) (rw text (h next w' gap' u spelled' parts')))

  simples_sound : (n : ℕ) (s : Simple) (w gap t : Text) → SpellsSimple d s w → IsGap d gap t
      → SimplesAt s (w ++ (gap ++ t)) (some_simples d n t)
  simples_sound zero s w gap t spelled parts = tt
  simples_sound (suc n) s w gap t spelled parts = by_test (ends_range t)
      (λ e. rw e (w, gap, spelled, parts.0, refl))
      (λ e. rw e (next_sound s w gap t _ _ (simples_sound n) spelled parts e refl (simple_sound d t)))

  -- a range that is found is spelled at the beginning of the text, with blanks after it
  abbrev RangeAt : Text → Option (RangeTree × Text) → Type 0
  RangeAt t None = Unit {0}
  RangeAt t (Some found) = (inner : Text) × (after : Text) × SpellsRange d found.0 inner × AreBlanks d after
      × (t ≡ inner ++ (after ++ found.1))

  -- a right side that is found is spelled after a hyphen and blanks at the beginning of the text
  abbrev RightAt : Text → Option (PartialTree × Text) → Type 0
  RightAt t None = Unit {0}
  RightAt t (Some found) =
      (gap : Text) × (w : Text) × (after : Text) × AreSomeBlanks d gap × SpellsWord d after_hyphen found.0 w
      × AreBlanks d after
      × (t ≡ codes "-" ++ (gap ++ (w ++ (after ++ found.1))))

  end_sound : (blank : ℕ) (t : Text) (o : Option (PartialTree × Text)) → is_blank d blank ≡ true
      → WordAt d after_hyphen (after_blanks d t) o → RightAt (45 ∷ blank ∷ t) (range_end d o)
  end_sound blank t None e h = tt
  end_sound blank t (Some (p, u)) e (w, spelled, text, ends) = by_test (ends_range (after_blanks d u))
      (λ stops. rw stops (
        blank ∷ front (is_blank d) t,
        w,
        front (is_blank d) u,
        (refl, and_from _ _ e (front_all (is_blank d) t)),
        spelled,
        front_all (is_blank d) u,
        cc (front-back (is_blank d) t, front-back (is_blank d) u),
      ))
      (λ other. rw other tt)

  right_sound : (t : Text) → RightAt t (right_side d t)
  right_sound [] = tt
  right_sound (dash ∷ []) = tt
  right_sound (dash ∷ blank ∷ t) = by_test ((dash == 45) && is_blank d blank)
      (λ e. let p = and_parts _ _ e in
      rw (e, eqb-true dash 45 p.0) (end_sound blank t _ p.1 (partial_sound d after_hyphen (after_blanks d t))))
      (λ e. rw e tt)

  hyphen_sound : (s : Simple) (w gap t : Text) (o : Option (PartialTree × Text)) → SpellsSimple d s w → AreSomeBlanks d gap
      → RightAt t o → RangeAt (w ++ (gap ++ t)) (with_right s o)
  hyphen_sound s w gap t None spelled blanks h = tt
  hyphen_sound s w gap t (Some (p, u)) spelled blanks (gap', w', after, blanks', spelled', ends, text) = by_test (is_bare s.operator)
      (λ e. rw e (
        _,
        after,
        (w, gap, gap', w', bare_partial d s w e spelled, blanks, blanks', spelled', refl),
        ends,
        rw text (simp append_assoc),
      ))
      (λ e. rw e tt)

  others_sound : (s : Simple) (t : Text) (o : Option (List Simple × Text)) → SimplesAt s t o → RangeAt t (with_others s o)
  others_sound s t None h = tt
  others_sound s t (Some found) h = h

  first_sound : (t : Text) (o : Option (Simple × Text)) → SimpleAt d t o → RangeAt t (after_first d o)
  first_sound t None h = tt
  first_sound t (Some (s, u)) (w, gap, spelled, parts, text) = by_test (begins_with 45 u)
      (λ e. rw (text, e) (hyphen_sound s w gap u _ spelled (some_blanks gap u parts (no_end u e) (hyphen_no_comma u e)) (right_sound u)))
      (λ e. rw (text, e) (others_sound s _ _ (simples_sound (suc (length u)) s w gap u spelled parts)))

  range_here_sound : (t : Text) → RangeAt t (range_here d t)
  range_here_sound t = by_test (ends_range t)
      (λ e. rw e ([], [], refl, refl, refl))
      (λ e. rw e (first_sound t _ (simple_sound d t)))

  -- a range that is found is spelled at the beginning of the text, with blanks on both sides
  abbrev PaddedAt : Text → Option (RangeTree × Text) → Type 0
  PaddedAt t None = Unit {0}
  PaddedAt t (Some found) = (w : Text) × SpellsPadded d found.0 w × (t ≡ w ++ found.1)

  padded_sound : (t : Text) (o : Option (RangeTree × Text)) → RangeAt (after_blanks d t) o → PaddedAt t o
  padded_sound t None h = tt
  padded_sound t (Some (r, u)) (inner, after, spelled, ends, text) = (
    _,
    (front _ t, inner, after, front_all (is_blank d) t, spelled, ends, refl),
    front-back (is_blank d) t ∙ rw text (simp append_assoc),
  )

  -- a tree that is found spells the text
  abbrev SetAt : Text → Option SetTree → Type 0
  SetAt t None = Unit {0}
  SetAt t (Some tree) = SpellsRangeIn d tree t

  onto_sound : (r : RangeTree) (w t : Text) (o : Option SetTree) → SpellsPadded d r w → SetAt t o
      → SetAt (w ++ (codes "||" ++ t)) (onto r o)
  onto_sound r w t None spelled h = tt
  onto_sound r w t (Some []) spelled h = absurd h
  onto_sound r w t (Some (next ∷ others)) spelled h = (w, t, spelled, h, simp append_assoc)

  more_sound : (r : RangeTree) (w t : Text) (f : Text → Option SetTree) (o : Option Text) → ((t : Text) → SetAt t (f t))
      → SpellsPadded d r w → BarsAt t o → SetAt (w ++ t) (more_ranges f r o)
  more_sound r w t f None h spelled bars = tt
  more_sound r w t f (Some u) h spelled bars = rw bars (onto_sound r w u (f u) spelled (h u))

  after_range_sound : (t : Text) (f : Text → Option SetTree) (o : Option (RangeTree × Text)) → ((t : Text) → SetAt t (f t))
      → PaddedAt t o → SetAt t (after_range f o)
  after_range_sound t f None h found = tt
  after_range_sound t f (Some (r, [])) h (w, spelled, text) = rw (text, append-nil) spelled
  after_range_sound t f (Some (r, b ∷ u)) h (w, spelled, text) =
      rw text (more_sound r w (b ∷ u) f _ h spelled (bars_sound (b ∷ u)))

  ranges_sound : (n : ℕ) (t : Text) → SetAt t (some_ranges d n t)
  ranges_sound zero t = tt
  ranges_sound (suc n) t = after_range_sound t _ _ (ranges_sound n) (padded_sound t _ (range_here_sound (after_blanks d t)))

  pub read_sound : (t : Text) (tree : SetTree) → read d t ≡ Some tree → SpellsRangeIn d tree t
  read_sound t tree e = rw e at (ranges_sound (suc (length t)) t)

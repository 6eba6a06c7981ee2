-- If the reader finds a component, parts, a partial version, an operator or a term at the beginning
-- of a text, the text begins with it.
use Rattle.std.proofs.Common.{◌≡◌, ℕ, Bool, true, false, ◌&&◌, ◌||◌, ◌==◌, ◌⊎◌, List, [], ◌∷◌, ◌++◌, codes, refl, sym, ap, ◌∙◌, inl}
use Rattle.std.proofs.Common.{arith, inr, Option, Some, None, append_assoc, ◌-◌, length, length-append, subst}
use Rattle.std.proofs.lemmas.Bool.{and_parts, or_left, eqb-true}
use Rattle.std.proofs.lemmas.Bool.Decides.{nat_tests}
use Rattle.std.proofs.lemmas.List.Splits.{join_with_byte-slice_split}
use Rattle.std.specs.Char.{is_ascii_digit}
use Rattle.semver_texts.proofs.Lists.{by_test}
use Rattle.semver_texts.proofs.PartRuns.{pieces}
use Rattle.std.specs.Str.{all_ascii_digits}
use Rattle.std.specs.List.{list_all, slice_split, join_with_byte}
use Rattle.semver_texts.specs.declared.grammar.Grammar.{Grammar}
use Rattle.semver_texts.specs.declared.grammar.Grammar.TheVariants.{Crate, Cargo, Npm}
use Rattle.semver_ranges.specs.declared.operator.Operator.{Operator}
use Rattle.semver_ranges.specs.RangeTree.{PartialTree, one, two, three, Simple, is_blank, is_wildcard, is_component, AreBlanks}
use Rattle.semver_ranges.specs.RangeTree.{SpellsPartial, SpellsWord, IsSignAndBlanks, SpellsOperator, SpellsSimple, Role, after_operator}
use Rattle.semver_ranges.specs.RangeTree.{is_word_of_npm}
use Rattle.semver_texts.specs.Texts.{is_part}
use Rattle.semver_texts.specs.Texts.{Text, begins_with, is_empty, marked, is_dot}
use Rattle.semver_ranges.specs.Steps.Reading.{front, back, after_blanks, ends_range, ends_word, component, parts}
use Rattle.semver_texts.specs.Texts.{is_dotted_byte}
use Rattle.semver_ranges.specs.Steps.Reading.{with_build, after_pre, with_pre, after_three, with_third, after_two, with_second}
use Rattle.semver_ranges.specs.Steps.Reading.{after_one, with_first, whole_word, partial, after_less, after_greater, after_tilde, operator_at}
use Rattle.semver_ranges.specs.Steps.Reading.{with_form, simple, after_v, takes}

-- a text is its `front` and its `back`, and each byte of the `front` passes
pub front-back : (p : ℕ → Bool) (t : Text) → t ≡ front p t ++ back p t
front-back p [] = refl
front-back p (b ∷ t) = grind (arith, front-back p t)

pub front_all : (p : ℕ → Bool) (t : Text) → list_all p (front p t) ≡ true
front_all p [] = refl
front_all p (b ∷ t) = grind (arith, front_all p t)

-- a component that is found is at the beginning of the text
abbrev pub ComponentAt : Text → Option (Text × Text) → Type 0
ComponentAt t None = Unit {0}
ComponentAt t (Some found) = (is_component found.0 ≡ true) × (t ≡ found.0 ++ found.1)

digits : (t : Text) → list_all is_ascii_digit t ≡ true → all_ascii_digits t ≡ true
digits [] e = refl
digits (b ∷ t) e = grind (arith, digits t)

pub component_sound : (t : Text) → ComponentAt t (component t)
component_sound [] = tt
component_sound (b ∷ t) = let back = front-back is_ascii_digit t in
    grind (arith, nat_tests, digits (front is_ascii_digit t) (front_all is_ascii_digit t))

-- parts that are found are at the beginning of the text, joined by dots, whatever mark is before
-- them
abbrev PartsAt : Text → Option (List Text × Text) → Type 0
PartsAt t None = Unit {0}
PartsAt t (Some found) = (list_all is_part found.0 ≡ true) × ((mark : ℕ) → mark ∷ t ≡ marked (mark ∷ []) found.0 ++ found.1)

marked_parts : (mark : ℕ) (t : Text) → marked (mark ∷ []) (slice_split is_dot t) ≡ mark ∷ t
marked_parts mark t = cc (pieces t, join_with_byte-slice_split 46 t)

parts_sound : (t : Text) → PartsAt t (parts t)
parts_sound t = by_test (list_all is_part (slice_split is_dot (front is_dotted_byte t)))
    (λ e. rw e (e, λ mark. rw (marked_parts mark (front is_dotted_byte t)) (ap (λ x. mark ∷ x) (front-back is_dotted_byte t))))
    (λ e. rw e tt)

-- a partial version that is found is spelled at the beginning of the text
abbrev pub PartialAt : Text → Option (PartialTree × Text) → Type 0
PartialAt t None = Unit {0}
PartialAt t (Some found) = (w : Text) × SpellsPartial found.0 w × (t ≡ w ++ found.1)

-- `PartialAt` for a text of which the components `cs` have been read, and t is left
abbrev After : List Text → Text → Option (PartialTree × Text) → Type 0
After cs t o = list_all is_component cs ≡ true → PartialAt (join_with_byte 46 cs ++ t) o

module _ (a b c : Text) where
  three_sound : (pre build : List Text) (u : Text) → list_all is_part pre ≡ true → list_all is_part build ≡ true
      → After (a ∷ b ∷ c ∷ []) (marked (codes "-") pre ++ (marked (codes "+") build ++ u)) (Some (three a b c pre build, u))
  three_sound pre build u p q h = (_, (h, (p, q), refl), simp append_assoc)

  build_sound : (pre : List Text) (t : Text) (o : Option (List Text × Text)) → list_all is_part pre ≡ true → PartsAt t o
      → After (a ∷ b ∷ c ∷ []) (marked (codes "-") pre ++ (43 ∷ t)) (with_build a b c pre o)
  build_sound pre t None p q h = tt
  build_sound pre t (Some found) p (parts, text) h = rw (text 43) (three_sound pre found.0 found.1 p parts h)

  after_pre_sound : (pre : List Text) (t : Text) → list_all is_part pre ≡ true
      → After (a ∷ b ∷ c ∷ []) (marked (codes "-") pre ++ t) (after_pre a b c pre t)
  after_pre_sound pre [] p h = three_sound pre [] [] p refl h
  after_pre_sound pre (mark ∷ t) p h =
      grind (arith, nat_tests, build_sound pre t (parts t) p (parts_sound t) h, three_sound pre [] (mark ∷ t) p refl h)

  pre_sound : (t : Text) (o : Option (List Text × Text)) → PartsAt t o → After (a ∷ b ∷ c ∷ []) (45 ∷ t) (with_pre a b c o)
  pre_sound t None q h = tt
  pre_sound t (Some found) (parts, text) h = rw (text 45) (after_pre_sound found.0 found.1 parts h)

  after_three_sound : (t : Text) → After (a ∷ b ∷ c ∷ []) t (after_three a b c t)
  after_three_sound [] h = three_sound [] [] [] refl refl h
  after_three_sound (mark ∷ t) h =
      grind (arith, nat_tests, pre_sound t (parts t) (parts_sound t) h, after_pre_sound [] (mark ∷ t) refl h)

third_sound : (a b t : Text) (o : Option (Text × Text)) → ComponentAt t o → After (a ∷ b ∷ []) (46 ∷ t) (with_third a b o)
third_sound a b t None q h = tt
third_sound a b t (Some found) (third, text) h =
    rw text (simp append_assoc (simp append_assoc at (after_three_sound a b found.0 found.1 (grind arith))))

-- partial versions with one or two components, and then with any number
two_sound : (a b u : Text) → After (a ∷ b ∷ []) u (Some (two a b, u))
two_sound a b u h = (_, (h, tt, refl), simp append_assoc)

after_two_sound : (a b t : Text) → After (a ∷ b ∷ []) t (after_two a b t)
after_two_sound a b [] h = two_sound a b [] h
after_two_sound a b (dot ∷ t) h =
    grind (arith, nat_tests, third_sound a b t (component t) (component_sound t) h, two_sound a b (dot ∷ t) h)

second_sound : (a t : Text) (o : Option (Text × Text)) → ComponentAt t o → After (a ∷ []) (46 ∷ t) (with_second a o)
second_sound a t None q h = tt
second_sound a t (Some found) (second, text) h =
    rw text (simp append_assoc at (after_two_sound a found.0 found.1 (grind arith)))

one_sound : (a u : Text) → After (a ∷ []) u (Some (one a, u))
one_sound a u h = (_, (h, tt, refl), simp append_assoc)

after_one_sound : (a t : Text) → After (a ∷ []) t (after_one a t)
after_one_sound a [] h = one_sound a [] h
after_one_sound a (dot ∷ t) h =
    grind (arith, nat_tests, second_sound a t (component t) (component_sound t) h, one_sound a (dot ∷ t) h)

pub first_sound : (t : Text) (o : Option (Text × Text)) → ComponentAt t o → PartialAt t (with_first o)
first_sound t None q = tt
first_sound t (Some found) (first, text) = rw text (after_one_sound found.0 found.1 (grind arith))

-- a digit or a wildcard; below, that every partial version begins with such a byte
abbrev pub is_component_byte : ℕ → Bool
is_component_byte b = is_ascii_digit b || is_wildcard (b ∷ [])

abbrev pub starts : (ℕ → Bool) → Text → Bool
starts p [] = false
starts p (b ∷ t) = p b

pub starts-append : (p : ℕ → Bool) (t u : Text) → starts p t ≡ true → starts p (t ++ u) ≡ true
starts-append p [] u e = cc
starts-append p (b ∷ t) u e = e

component_starts : (t u : Text) → is_component t ≡ true → starts is_component_byte (t ++ u) ≡ true
component_starts [] u e = cc
component_starts (b ∷ []) u e = grind arith
component_starts (b ∷ c ∷ t) u e = grind arith

pub partial_starts : (p : PartialTree) (t : Text) → SpellsPartial p t → starts is_component_byte t ≡ true
partial_starts (one a) t (h, k, e) = rw e (component_starts a [] (grind arith))
partial_starts (two a b) t (h, k, e) = rw (e, append_assoc) (component_starts a _ (grind arith))
partial_starts (three a b c pre build) t (h, k, e) = rw (e, append_assoc) (component_starts a _ (grind arith))

-- a word: the `v` that npm's grammar allows, or nothing, and a partial version
pub record Word (d : Grammar) (role : Role) (p : PartialTree) (t : Text) : Type 0 where
  pub front : Text
  pub back : Text
  pub spelled : SpellsPartial p back
  pub taken : takes d role p (length t) ≡ true
  pub after : (u : Text) → after_v d (t ++ u) ≡ back ++ u
  pub text : t ≡ front ++ back

-- a partial version doesn't begin with a `v`
pub no_v : (t : Text) → starts is_component_byte t ≡ true → after_v Npm t ≡ t
no_v [] e = refl
no_v (b ∷ t) e = grind (arith, nat_tests)

pub word_parts : (d : Grammar) (role : Role) (p : PartialTree) (t : Text) → SpellsWord d role p t → Word d role p t
word_parts Crate role p t h = record { front = []; back = t; spelled = h; taken = refl; after = λ u. refl; text = refl }
word_parts Cargo role p t h = record { front = []; back = t; spelled = h; taken = refl; after = λ u. refl; text = refl }
word_parts Npm role p t (front, back, mark, spelled, taken, text) = record {
  front = front;
  back = back;
  spelled = spelled;
  taken = taken;
  after = λ u. rw text (elim mark [
    | inl e ↦ rw e (no_v (back ++ u) (starts-append is_component_byte back u (partial_starts p back spelled)))
    | inr e ↦ rw e
  ]);
  text = text;
}

-- a digit, a wildcard or a `v`; below, that every word begins with such a byte
abbrev pub is_word_byte : ℕ → Bool
is_word_byte b = is_component_byte b || (b == 118)

pub component_word : (t : Text) → starts is_component_byte t ≡ true → starts is_word_byte t ≡ true
component_word [] e = cc
component_word (b ∷ t) e = or_left _ _ e

pub word_starts : (d : Grammar) (role : Role) (p : PartialTree) (t : Text) → SpellsWord d role p t → starts is_word_byte t ≡ true
word_starts Crate role p t h = component_word t (partial_starts p t h)
word_starts Cargo role p t h = component_word t (partial_starts p t h)
word_starts Npm role p t (front, back, mark, spelled, taken, text) = rw text (elim mark [
  | inl e ↦ rw e (component_word back (partial_starts p back spelled))
  | inr e ↦ rw e
])

-- a partial version that is found is spelled by a word at the beginning of the text, and the word
-- ends there
abbrev pub WordAt : Grammar → Role → Text → Option (PartialTree × Text) → Type 0
WordAt d role t None = Unit {0}
WordAt d role t (Some found) =
    (w : Text) × SpellsWord d role found.0 w × (t ≡ w ++ found.1) × (ends_word d found.1 ≡ true)

pub length_before : (t w u : Text) → t ≡ w ++ u → length t - length u ≡ length w
length_before t w u e = omega (arith, simp length-append at (ap length e))

taken_word : (role : Role) (p : PartialTree) (t w u : Text) → t ≡ w ++ u → takes Npm role p (length t - length u) ≡ true
    → is_word_of_npm role p (length w) ≡ true
taken_word role p t w u e taken = subst (λ n. is_word_of_npm role p n ≡ true) (length_before t w u e) taken

word_spelled : (d : Grammar) (role : Role) (p : PartialTree) (t back u : Text) → SpellsPartial p back
    → takes d role p (length t - length u) ≡ true → after_v d t ≡ back ++ u → (w : Text) × SpellsWord d role p w × (t ≡ w ++ u)
word_spelled Crate role p t back u spelled taken e = (back, spelled, e)
word_spelled Cargo role p t back u spelled taken e = (back, spelled, e)
word_spelled Npm role p [] back u spelled taken e =
    (back, ([], back, inl refl, spelled, taken_word role p [] back u e taken, refl), e)
word_spelled Npm role p (b ∷ t) back u spelled taken e = by_test (b == 118)
    (λ y. let whole : b ∷ t ≡ (118 ∷ back) ++ u = cc (eqb-true b 118 y, rw y at e) in
    (118 ∷ back, (118 ∷ [], back, inr refl, spelled, taken_word role p (b ∷ t) (118 ∷ back) u whole taken, refl), whole))
    (λ n. let whole : b ∷ t ≡ back ++ u = rw n at e in
    (back, ([], back, inl refl, spelled, taken_word role p (b ∷ t) back u whole taken, refl), whole))

module _ (d : Grammar) where
  word_sound : (role : Role) (t : Text) (o : Option (PartialTree × Text)) → PartialAt (after_v d t) o
      → WordAt d role t (whole_word d role (length t) o)
  word_sound role t None h = tt
  word_sound role t (Some found) (back, spelled, text) =
      by_test (takes d role found.0 (length t - length found.1) && ends_word d found.1)
      (λ e. let parts = and_parts _ _ e in
      let word = word_spelled d role found.0 t back found.1 spelled parts.0 text in
      rw e (word.0, word.1, word.2, parts.1))
      (λ e. rw e tt)

  pub partial_sound : (role : Role) (t : Text) → WordAt d role t (partial d role t)
  partial_sound role t = let u = after_v d t in word_sound role t _ (first_sound u _ (component_sound u))

  -- an operator that is found is spelled at the beginning of the text, with the blanks after it
  abbrev pub FormAt : Text → Operator × Text → Type 0
  FormAt t found = (w : Text) × SpellsOperator d found.0 w × (t ≡ w ++ found.1)

  signed : (sign t : Text) → (w : Text) × IsSignAndBlanks d sign w × (sign ++ t ≡ w ++ after_blanks d t)
  signed sign t = (
    _,
    (front (is_blank d) t, front_all (is_blank d) t, refl),
    ap (λ x. sign ++ x) (front-back (is_blank d) t) ∙ sym (append_assoc sign _ _),
  )

  less_sound : (t : Text) → FormAt (60 ∷ t) (after_less d t)
  less_sound [] = signed (codes "<") []
  less_sound (b ∷ t) = by_test (b == 61)
      (λ e. rw (eqb-true b 61 e) (signed (codes "<=") t))
      (λ e. rw e (signed (codes "<") (b ∷ t)))

  greater_sound : (t : Text) → FormAt (62 ∷ t) (after_greater d t)
  greater_sound [] = signed (codes ">") []
  greater_sound (b ∷ t) = by_test (b == 61)
      (λ e. rw (eqb-true b 61 e) (signed (codes ">=") t))
      (λ e. rw e (signed (codes ">") (b ∷ t)))

  tilde_sound : (t : Text) → FormAt (126 ∷ t) (after_tilde d t)
  tilde_sound [] = (codes "~", inl ([], refl, refl), refl)
  tilde_sound (b ∷ t) = by_test (b == 62)
      (λ e. rw (eqb-true b 62 e) (let r = signed (codes "~>") t in (r.0, inr r.1, r.2)))
      (λ e. rw e (let r = signed (codes "~") (b ∷ t) in (r.0, inl r.1, r.2)))

  pub operator_sound : (t : Text) → FormAt t (operator_at d t)
  operator_sound [] = ([], refl, refl)
  operator_sound (b ∷ t) = by_test (b == 61)
      (λ e. rw (eqb-true b 61 e) (signed (codes "=") t))
      (λ n1. by_test (b == 60)
      (λ e. rw (eqb-true b 60 e) (less_sound t))
      (λ n2. by_test (b == 62)
      (λ e. rw (eqb-true b 62 e) (greater_sound t))
      (λ n3. by_test (b == 126)
      (λ e. rw (eqb-true b 126 e) (tilde_sound t))
      (λ n4. by_test (b == 94)
      (λ e. rw (eqb-true b 94 e) (signed (codes "^") t))
      (λ n5. rw (n1, n2, n3, n4, n5) ([], refl, refl))))))

  -- the blanks after a term: at least one, unless the range ends after them, or a comma follows
  abbrev pub IsGap : Text → Text → Type 0
  IsGap gap t = AreBlanks d gap × ((is_empty gap ≡ false) ⊎ ((ends_range t || begins_with 44 t) ≡ true))

  gap_parts : (t : Text) → ends_word d t ≡ true → IsGap (front (is_blank d) t) (after_blanks d t)
  gap_parts [] e = (refl, inr refl)
  gap_parts (b ∷ t) e = grind (arith, front_all (is_blank d) t)

  -- a term that is found is spelled at the beginning of the text, with a gap after it
  abbrev pub SimpleAt : Text → Option (Simple × Text) → Type 0
  SimpleAt t None = Unit {0}
  SimpleAt t (Some found) = (w : Text) × (gap : Text) × SpellsSimple d found.0 w × IsGap gap found.1 × (t ≡ w ++ (gap ++ found.1))

  form_sound : (t : Text) (found : Operator × Text) (o : Option (PartialTree × Text)) → FormAt t found
      → WordAt d (after_operator found.0) found.1 o → SimpleAt t (with_form d found.0 o)
  form_sound t found None h k = tt
  form_sound t found (Some (p, u)) (sign, operator, text) (w, spelled, text', ends) = (
    sign ++ w,
    front (is_blank d) u,
    (sign, w, operator, spelled, refl),
    gap_parts u ends,
    rw (text, text', ← front-back (is_blank d) u, append_assoc),
  )

  pub simple_sound : (t : Text) → SimpleAt t (simple d t)
  simple_sound t = form_sound t (operator_at d t) _ (operator_sound t) (partial_sound (after_operator (operator_at d t).0) (operator_at d t).1)

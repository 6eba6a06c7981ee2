-- If a text begins with a component, parts, a partial version, an operator or a term, and the rest
-- of the text ends it, the reader finds it.
use Rattle.std.proofs.Common.{◌≡◌, ℕ, Bool, true, false, not, ◌||◌, ◌==◌, List, [], ◌∷◌, ◌++◌, codes, refl, ap, ◌∙◌, inl, inr}
use Rattle.std.proofs.Common.{Some, append_assoc, append-nil, arith, ◌-◌, length, subst, sym}
use Rattle.std.proofs.lemmas.Bool.Decides.{nat_tests}
use Rattle.std.proofs.lemmas.Bool.{or_left, not_from_false}
use Rattle.std.proofs.lemmas.List.Folds.{list_all-append}
use Rattle.std.specs.Char.{is_ascii_digit}
use Rattle.std.specs.Int.{is_in_range}
use Rattle.std.specs.Str.{all_ascii_digits}
use Rattle.std.specs.List.{list_all, join_with_byte}
use Rattle.semver_texts.specs.declared.grammar.Grammar.{Grammar}
use Rattle.semver_texts.specs.declared.grammar.Grammar.TheVariants.{Crate, Cargo, Npm}
use Rattle.semver_ranges.specs.declared.operator.Operator.{Operator}
use Rattle.semver_ranges.specs.declared.operator.Operator.TheVariants.{Bare, Less, Greater, Tilde, Hyphen}
use Rattle.semver_ranges.specs.RangeTree.{PartialTree, one, two, three, Simple, is_blank, is_component, AreBlanks, Role, after_operator}
use Rattle.semver_ranges.specs.RangeTree.{SpellsPartial, SpellsWord, SpellsOperator, SpellsSimple}
use Rattle.semver_texts.specs.Texts.{is_part}
use Rattle.semver_texts.specs.Texts.{is_part_byte, Text, marked}
use Rattle.semver_ranges.specs.Steps.Reading.{front, back, after_blanks, ends_word, component, parts, after_pre}
use Rattle.semver_texts.specs.Texts.{is_dotted_byte}
use Rattle.semver_ranges.specs.Steps.Reading.{with_pre, after_three, after_two, after_one, with_first}
use Rattle.semver_ranges.specs.Steps.Reading.{partial, takes, after_less, after_greater, after_tilde, operator_at, simple}
use Rattle.semver_texts.proofs.PartRuns.{split_parts}
use Rattle.semver_ranges.proofs.Tests.{list_all-weaker}
use Rattle.semver_ranges.proofs.ReadingPieces.{starts, starts-append, is_word_byte, word_starts, word_parts, length_before}

-- whether a text is empty or begins with a byte that fails p
abbrev pub stops : (ℕ → Bool) → Text → Bool
stops p [] = true
stops p (b ∷ t) = not (p b)

pub front-append : (p : ℕ → Bool) (a r : Text) → list_all p a ≡ true → stops p r ≡ true → front p (a ++ r) ≡ a
front-append p [] [] e s = refl
front-append p [] (b ∷ r) e s = grind arith
front-append p (x ∷ a) r e s = grind (arith, front-append p a r)

pub back-append : (p : ℕ → Bool) (a r : Text) → list_all p a ≡ true → stops p r ≡ true → back p (a ++ r) ≡ r
back-append p [] [] e s = refl
back-append p [] (b ∷ r) e s = grind arith
back-append p (x ∷ a) r e s = grind (arith, back-append p a r)

-- two bytes differ if only one of them passes p
pub apart : (p : ℕ → Bool) (b c : ℕ) → p b ≡ true → p c ≡ false → (b == c) ≡ false
apart p b c within without = grind (arith, nat_tests)

-- a letter, a digit, `-`, `.` or `+`: a partial version ends before any other byte, and at the end
-- of the text
abbrev pub is_partial_byte : ℕ → Bool
is_partial_byte b = is_dotted_byte b || (b == 43)

abbrev pub ends_partial : Text → Bool
ends_partial t = stops is_partial_byte t

no_digit : (t : Text) → ends_partial t ≡ true → stops is_ascii_digit t ≡ true
no_digit [] e = refl
no_digit (b ∷ t) e = grind (arith, nat_tests)

no_dotted : (t : Text) → ends_partial t ≡ true → stops is_dotted_byte t ≡ true
no_dotted [] e = refl
no_dotted (b ∷ t) e = grind arith

-- the bytes of a range other than blanks; below, that none of them is a blank
abbrev pub is_written : ℕ → Bool
is_written b = is_partial_byte b || ((b == 42) || (is_in_range 60 62 b || ((b == 94) || ((b == 124) || (b == 126)))))

pub no_blank_byte : (d : Grammar) (b : ℕ) → is_written b ≡ true → is_blank d b ≡ false
no_blank_byte Crate b e = grind (arith, nat_tests)
no_blank_byte Cargo b e = grind (arith, nat_tests)
no_blank_byte Npm b e = grind (arith, nat_tests)

pub word_ends_partial : (d : Grammar) (t : Text) → ends_word d t ≡ true → ends_partial t ≡ true
word_ends_partial d [] e = refl
word_ends_partial d (b ∷ t) e = let h = no_blank_byte d b in grind (arith, nat_tests)

-- a component is read if no digit follows it
digit_bytes : (t : Text) → all_ascii_digits t ≡ true → list_all is_ascii_digit t ≡ true
digit_bytes [] e = refl
digit_bytes (b ∷ t) e = grind (arith, digit_bytes t)

component_read : (t u : Text) → is_component t ≡ true → stops is_ascii_digit u ≡ true → component (t ++ u) ≡ Some (t, u)
component_read [] u e s = cc
component_read (b ∷ []) u e s =
    let front = front-append is_ascii_digit [] u refl s in
    let back = back-append is_ascii_digit [] u refl s in grind (arith, nat_tests)
component_read (b ∷ c ∷ t) u e s =
    let bytes : list_all is_ascii_digit (c ∷ t) ≡ true = grind (arith, digit_bytes (c ∷ t)) in
    let front = front-append is_ascii_digit (c ∷ t) u bytes s in
    let back = back-append is_ascii_digit (c ∷ t) u bytes s in grind (arith, nat_tests)

in_part : (t : Text) → list_all is_part_byte t ≡ true → list_all is_dotted_byte t ≡ true
in_part = list_all-weaker _ _ (λ b. or_left _ _)

in_joined : (x : Text) (xs : List Text) → list_all is_part (x ∷ xs) ≡ true → list_all is_dotted_byte (join_with_byte 46 (x ∷ xs)) ≡ true
in_joined x [] e = in_part x (grind arith)
in_joined x (y ∷ ys) e = rw list_all-append (grind (arith, in_part x, in_joined y ys))

parts_read : (x : Text) (xs : List Text) (u : Text) → list_all is_part (x ∷ xs) ≡ true → stops is_dotted_byte u ≡ true
    → parts (join_with_byte 46 (x ∷ xs) ++ u) ≡ Some (x ∷ xs, u)
parts_read x xs u e s =
    let joined = in_joined x xs e in
    rw (front-append is_dotted_byte _ u joined s, back-append is_dotted_byte _ u joined s, split_parts x xs e, e)

-- a partial version is read: its build metadata, its pre-release, and then its components
module _ (a b c : Text) where
  after_pre_read : (pre build : List Text) (u : Text) → list_all is_part build ≡ true → ends_partial u ≡ true
      → after_pre a b c pre (marked (codes "+") build ++ u) ≡ Some (three a b c pre build, u)
  after_pre_read pre [] [] h e = refl
  after_pre_read pre [] (mark ∷ u) h e = grind arith
  after_pre_read pre (x ∷ xs) u h e = rw (parts_read x xs u h (no_dotted u e))

  stops_at_build : (build : List Text) (u : Text) → ends_partial u ≡ true → stops is_dotted_byte (marked (codes "+") build ++ u) ≡ true
  stops_at_build [] u e = no_dotted u e
  stops_at_build (x ∷ xs) u e = refl

  after_three_read : (pre build : List Text) (u : Text) → list_all is_part pre ≡ true → list_all is_part build ≡ true
      → ends_partial u ≡ true
      → after_three a b c (marked (codes "-") pre ++ (marked (codes "+") build ++ u)) ≡ Some (three a b c pre build, u)
  after_three_read [] [] [] p q e = refl
  after_three_read [] [] (mark ∷ u) p q e = grind (arith, nat_tests)
  after_three_read [] (x ∷ xs) u p q e = after_pre_read [] (x ∷ xs) u q e
  after_three_read (y ∷ ys) build u p q e =
      ap (with_pre a b c) (parts_read y ys _ p (stops_at_build build u e)) ∙ after_pre_read (y ∷ ys) build u q e

after_two_read : (a b u : Text) → ends_partial u ≡ true → after_two a b u ≡ Some (two a b, u)
after_two_read a b [] e = refl
after_two_read a b (dot ∷ u) e = grind (arith, nat_tests)

after_one_read : (a u : Text) → ends_partial u ≡ true → after_one a u ≡ Some (one a, u)
after_one_read a [] e = refl
after_one_read a (dot ∷ u) e = grind (arith, nat_tests)

stops_at_qualifier : (pre build : List Text) (u : Text) → ends_partial u ≡ true
    → stops is_ascii_digit (marked (codes "-") pre ++ (marked (codes "+") build ++ u)) ≡ true
stops_at_qualifier [] [] u e = no_digit u e
stops_at_qualifier [] (x ∷ xs) u e = refl
stops_at_qualifier (y ∷ ys) build u e = refl

-- a partial version is read if the rest ends it; below, a word
pub first_read : (p : PartialTree) (w u : Text) → SpellsPartial p w → ends_partial u ≡ true → with_first (component (w ++ u)) ≡ Some (p, u)
first_read (one a) w u (h, k, text) e =
    rw (text, append-nil, component_read a u (grind arith) (no_digit u e)) (after_one_read a u e)
first_read (two a b) w u (h, k, text) e =
    rw (text, append-nil, append_assoc, component_read a (46 ∷ (b ++ u)) (grind arith) refl)
    (rw (component_read b u (grind arith) (no_digit u e)) (after_two_read a b u e))
first_read (three a b c pre build) w u (h, k, text) e =
    let rest = marked (codes "-") pre ++ (marked (codes "+") build ++ u) in
    let whole : w ++ u ≡ a ++ (46 ∷ (b ++ (46 ∷ (c ++ rest)))) = rw text (simp append_assoc) in
    rw (whole, component_read a (46 ∷ (b ++ (46 ∷ (c ++ rest)))) (grind arith) refl)
    (rw (component_read b (46 ∷ (c ++ rest)) (grind arith) refl)
    (rw (component_read c rest (grind arith) (stops_at_qualifier pre build u e)) (after_three_read a b c pre build u k.0 k.1 e)))

pub partial_read : (d : Grammar) (role : Role) (p : PartialTree) (w u : Text) → SpellsWord d role p w → ends_word d u ≡ true
    → partial d role (w ++ u) ≡ Some (p, u)
partial_read d role p w u h e =
    let word = word_parts d role p w h in
    let taken : takes d role p (length (w ++ u) - length u) ≡ true =
    subst (λ n. takes d role p n ≡ true) (sym (length_before (w ++ u) w u refl)) word.taken in
    rw (word.after u, first_read p word.back u word.spelled (word_ends_partial d u e), taken, e)

-- an operator is read if a word follows it
module _ (d : Grammar) where
  pub blanks_after : (blanks t : Text) → AreBlanks d blanks → stops (is_blank d) t ≡ true → after_blanks d (blanks ++ t) ≡ t
  blanks_after = back-append _

  -- if a byte is neither a blank nor the first byte of a word, no text of blanks and a word begins
  -- with it
  pub no_sign : (sign : ℕ) → is_blank d sign ≡ false → is_word_byte sign ≡ false → (blanks t : Text) → AreBlanks d blanks
      → starts is_word_byte t ≡ true → stops (λ b. b == sign) (blanks ++ t) ≡ true
  no_sign sign blank other [] [] h k = cc
  no_sign sign blank other [] (b ∷ t) h k = not_from_false _ (apart is_word_byte b sign k other)
  no_sign sign blank other (b ∷ blanks) t h k = not_from_false _ (apart (is_blank d) b sign (grind arith) blank)

  less_alone : (t : Text) → stops (λ b. b == 61) t ≡ true → after_less d t ≡ (Less, after_blanks d t)
  less_alone [] s = refl
  less_alone (b ∷ t) s = grind arith

  greater_alone : (t : Text) → stops (λ b. b == 61) t ≡ true → after_greater d t ≡ (Greater, after_blanks d t)
  greater_alone [] s = refl
  greater_alone (b ∷ t) s = grind arith

  tilde_alone : (t : Text) → stops (λ b. b == 62) t ≡ true → after_tilde d t ≡ (Tilde, after_blanks d t)
  tilde_alone [] s = refl
  tilde_alone (b ∷ t) s = grind arith

  word_written : (b : ℕ) → is_word_byte b ≡ true → is_written b ≡ true
  word_written b e = grind (arith, nat_tests)

  pub no_blank : (t : Text) → starts is_word_byte t ≡ true → stops (is_blank d) t ≡ true
  no_blank [] e = cc
  no_blank (b ∷ t) e = not_from_false _ (no_blank_byte d b (word_written b e))

  bare_read : (t : Text) → starts is_word_byte t ≡ true → operator_at d t ≡ (Bare, t)
  bare_read [] e = cc
  bare_read (b ∷ t) e = grind (arith, nat_tests)

  pub operator_read : (f : Operator) (sign t : Text) → SpellsOperator d f sign → starts is_word_byte t ≡ true
      → operator_at d (sign ++ t) ≡ (f, t)
  operator_read Bare sign t h e = rw h (bare_read t e)
  operator_read Hyphen sign t h e = absurd h
  operator_read Less sign t (blanks, h, text) e =
      rw (text, less_alone _ (no_sign 61 (no_blank_byte d 61 refl) refl blanks t h e), blanks_after blanks t h (no_blank t e))
  operator_read Greater sign t (blanks, h, text) e =
      rw (text, greater_alone _ (no_sign 61 (no_blank_byte d 61 refl) refl blanks t h e), blanks_after blanks t h (no_blank t e))
  operator_read Tilde sign t signed e = elim signed [
    | inl (blanks, h, text) ↦
        rw (text, tilde_alone _ (no_sign 62 (no_blank_byte d 62 refl) refl blanks t h e), blanks_after blanks t h (no_blank t e))
    | inr (blanks, h, text) ↦ rw (text, blanks_after blanks t h (no_blank t e))
  ]
  operator_read _ sign t (blanks, h, text) e = rw (text, blanks_after blanks t h (no_blank t e))

  -- a term is read, together with the blanks after it
  pub simple_read : (s : Simple) (w gap u : Text) → SpellsSimple d s w → AreBlanks d gap → ends_word d (gap ++ u) ≡ true
      → stops (is_blank d) u ≡ true → simple d (w ++ (gap ++ u)) ≡ Some (s, u)
  simple_read s w gap u (sign, text, operator, spelled, whole) blanks ends first =
      rw (
        whole,
        append_assoc,
        operator_read s.operator sign (text ++ (gap ++ u)) operator
            (starts-append is_word_byte text (gap ++ u) (word_starts d (after_operator s.operator) s.partial text spelled)),
      )
      (rw (partial_read d (after_operator s.operator) s.partial text (gap ++ u) spelled ends, blanks_after gap u blanks first))

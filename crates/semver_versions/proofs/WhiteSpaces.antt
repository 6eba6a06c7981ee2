-- The white space that may be before and after a version, character by character.
use Rattle.std.proofs.Common.{◌≡◌, ℕ, ◌<◌, ◌≤◌, Bool, true, List, [], ◌∷◌, ◌++◌, length, take, drop, arith, ap, sym, refl, ◌∙◌}
use Rattle.std.proofs.Common.{subst, append_assoc, append-nil, length-drop, ◌-◌}
use Rattle.std.proofs.Math.Seq.{take-length}
use Rattle.std.specs.Prelude.{◌||◌, ◌==◌, not}
use Rattle.std.specs.List.{concat, list_all}
use Rattle.std.proofs.lemmas.Bool.{and_parts}
use Rattle.std.proofs.lemmas.Bool.Decides.{nat_tests}
use Rattle.std.proofs.lemmas.List.{take-append-drop, take_at, drop_at}
use Rattle.std.proofs.lemmas.List.Folds.{concat-append, list_all-append}
use Rattle.semver_texts.specs.Texts.{Text, is_dotted_byte, is_space}
use Rattle.semver_texts.specs.WhiteSpace.{is_white_space}
use Rattle.semver_texts.specs.declared.grammar.Grammar.{Grammar}
use Rattle.semver_texts.specs.declared.grammar.Grammar.TheVariants.{Crate, Cargo, Npm}
use Rattle.semver_texts.proofs.Lists.{Passes, by_test, passes_append}
use Rattle.semver_versions.specs.Steps.Reading.{AreAround, around_size, is_around}

-- whether a byte is neither a letter, a digit, a hyphen, a dot nor a plus
abbrev pub is_outer : ℕ → Bool
is_outer b = not (is_dotted_byte b || (b == 43))

-- ---- one character

beyond : (b : ℕ) → 128 ≤ b → is_outer b ≡ true
beyond b h = grind (arith, nat_tests)

-- a character that may be around a version in some grammar is white space in npm's
is_white : (d : Grammar) (c : Text) → is_around d c ≡ true → is_white_space c ≡ true
is_white Crate [] e = cc
is_white Crate (a ∷ []) e = grind (arith, nat_tests)
is_white Crate (a ∷ b ∷ t) e = cc
is_white Cargo c e = cc
is_white Npm c e = e

outer_character : (c : Text) → is_white_space c ≡ true → Passes is_outer c
outer_character [] e = cc
outer_character (a ∷ []) e = (grind (arith, nat_tests), tt)
outer_character (a ∷ b ∷ []) e = (grind (arith, nat_tests), (grind (arith, nat_tests), tt))
outer_character (a ∷ b ∷ c ∷ []) e =
    (beyond a (grind (arith, nat_tests)), (beyond b (grind (arith, nat_tests)), (beyond c (grind (arith, nat_tests)), tt)))
outer_character (a ∷ b ∷ c ∷ d ∷ t) e = cc

some_character : (c : Text) → is_white_space c ≡ true → 0 < length c
some_character [] e = cc
some_character (a ∷ t) e = omega arith

size_of : (d : Grammar) (c more : Text) → is_around d c ≡ true → around_size d (c ++ more) ≡ length c
size_of Crate [] more e = cc
size_of Crate (a ∷ []) more e = rw e refl
size_of Crate (a ∷ b ∷ t) more e = cc
size_of Cargo c more e = cc
size_of Npm [] more e = cc
size_of Npm (a ∷ []) more e = rw e refl
size_of Npm (a ∷ b ∷ []) more e = grind (arith, nat_tests)
size_of Npm (a ∷ b ∷ c ∷ []) more e = grind (arith, nat_tests)
size_of Npm (a ∷ b ∷ c ∷ d ∷ t) more e = cc

-- a character that may be around a version doesn't begin with a letter, a digit, a hyphen or a dot
pub no_size : (d : Grammar) (b : ℕ) (t : Text) → is_dotted_byte b ≡ true → around_size d (b ∷ t) ≡ 0
no_size Crate b [] e = grind (arith, nat_tests)
no_size Crate b (c ∷ []) e = grind (arith, nat_tests)
no_size Crate b (c ∷ d ∷ t) e = grind (arith, nat_tests)
no_size Cargo b t e = refl
no_size Npm b [] e = grind (arith, nat_tests)
no_size Npm b (c ∷ []) e = grind (arith, nat_tests)
no_size Npm b (c ∷ d ∷ t) e = grind (arith, nat_tests)

pub none_size : (d : Grammar) → around_size d [] ≡ 0
none_size Crate = refl
none_size Cargo = refl
none_size Npm = refl

-- ---- any number of characters

module _ (d : Grammar) where
  -- the bytes that `around_size` counts are a character that may be around a version
  counted : (t : Text) → 0 < around_size d t → is_around d (take (around_size d t) t) ≡ true
  counted t some = by_test (is_around d (take 1 t)) (λ y. rw (y) y)
      (λ n. by_test (is_around d (take 2 t)) (λ y. rw (n, y) y)
      (λ m. by_test (is_around d (take 3 t)) (λ y. rw (n, m, y) y) (λ o. absurd (omega (arith, rw (n, m, o) at some)))))

  pub outer_bytes : (t : Text) → AreAround d t → Passes is_outer t
  outer_bytes t w = subst (Passes is_outer) (sym w.whole) (all w.each w.are)
    where
      all : (cs : List Text) → list_all (is_around d) cs ≡ true → Passes is_outer (concat cs)
      all [] e = tt
      all (c ∷ cs) e =
          let both = and_parts (is_around d c) _ e in
          passes_append is_outer c (concat cs) (outer_character c (is_white d c both.0)) (all cs both.1)

  pub none_around : AreAround d []
  none_around = record { each = []; are = refl; whole = refl }

  one_more : (spaces rest : Text) → AreAround d spaces → 0 < around_size d rest → AreAround d (spaces ++ take (around_size d rest) rest)
  one_more spaces rest w some = record {
    each = w.each ++ (take (around_size d rest) rest ∷ []);
    are = list_all-append (is_around d) w.each _ ∙ rw (w.are, counted rest some) refl;
    whole = rw w.whole (sym (concat-append w.each (take (around_size d rest) rest ∷ []) ∙ rw append-nil));
  }

  none_before : (b : Text) (ds : List Text) (x y : Text) → is_around d b ≡ true → x ≡ concat (b ∷ ds) ++ y → around_size d x ≡ 0 → ⊥
  none_before b ds x y e same none =
      absurd (omega (
        arith,
        some_character b (is_white d b e),
        none,
        ap (around_size d) (same ∙ append_assoc b (concat ds) y) ∙ size_of d b (concat ds ++ y) e,
      ))

  same_characters : (cs ds : List Text) (x y : Text) → list_all (is_around d) cs ≡ true → list_all (is_around d) ds ≡ true
      → concat cs ++ x ≡ concat ds ++ y → around_size d x ≡ 0 → around_size d y ≡ 0 → (concat cs ≡ concat ds) × (x ≡ y)
  same_characters [] [] x y a b e none none_y = (refl, e)
  same_characters [] (c ∷ ds) x y a b e none none_y = absurd (none_before c ds x y (and_parts _ _ b).0 e none)
  same_characters (c ∷ cs) [] x y a b e none none_y = absurd (none_before c cs y x (and_parts _ _ a).0 (sym e) none_y)
  same_characters (c ∷ cs) (b ∷ ds) x y a both e none none_y =
      let left = and_parts (is_around d c) _ a in
      let right = and_parts (is_around d b) _ both in
      let whole : c ++ (concat cs ++ x) ≡ b ++ (concat ds ++ y) =
      sym (append_assoc c (concat cs) x) ∙ e ∙ append_assoc b (concat ds) y in
      let size : length c ≡ length b =
      sym (size_of d c (concat cs ++ x) left.0) ∙ ap (around_size d) whole ∙ size_of d b (concat ds ++ y) right.0 in
      let first : c ≡ b =
      sym (take_at c (concat cs ++ x) (length c) refl) ∙ ap (take (length c)) whole ∙ take_at b (concat ds ++ y) (length c) (sym size) in
      let others : concat cs ++ x ≡ concat ds ++ y =
      sym (drop_at c (concat cs ++ x) (length c) refl) ∙ ap (drop (length c)) whole ∙ drop_at b (concat ds ++ y) (length c) (sym size) in
      let more = same_characters cs ds x y left.1 right.1 others none none_y in
      (λ i. first i ++ more.0 i, more.1)

  -- a text can be split in only one way into characters that may be around a version and a rest that
  -- doesn't begin with one
  pub same_around : (s t x y : Text) → AreAround d s → AreAround d t → s ++ x ≡ t ++ y → around_size d x ≡ 0 → around_size d y ≡ 0
      → (s ≡ t) × (x ≡ y)
  same_around s t x y a b e none none_y =
      let same = same_characters a.each b.each x y a.are b.are (ap (λ u. u ++ x) (sym a.whole) ∙ e ∙ ap (λ u. u ++ y) b.whole) none none_y
      in
      (a.whole ∙ same.0 ∙ sym b.whole, same.1)

-- ---- in the crate's and in Cargo's grammar

pub spaces_around : (t : Text) → Passes is_space t → AreAround Crate t
spaces_around [] all = none_around Crate
spaces_around (b ∷ t) all =
    let w = spaces_around t all.1 in
    record { each = (b ∷ []) ∷ w.each; are = rw all.0 w.are; whole = ap (λ x. b ∷ x) w.whole }

pub around_spaces : (t : Text) → AreAround Crate t → Passes is_space t
around_spaces t w = subst (Passes is_space) (sym w.whole) (all w.each w.are)
  where
    all : (cs : List Text) → list_all (is_around Crate) cs ≡ true → Passes is_space (concat cs)
    all [] e = tt
    all ([] ∷ cs) e = cc
    all ((b ∷ []) ∷ cs) e = let both = and_parts (is_space b) _ e in (both.0, all cs both.1)
    all ((b ∷ c ∷ t) ∷ cs) e = cc

pub nothing_around : (t : Text) → AreAround Cargo t → t ≡ []
nothing_around t w = w.whole ∙ none w.each w.are
  where
    none : (cs : List Text) → list_all (is_around Cargo) cs ≡ true → concat cs ≡ []
    none [] e = refl
    none (c ∷ cs) e = cc

-- ---- a step of the loop

-- the bytes from the offset n to the end of a text
pub left_is : (t : Text) (n : ℕ) → take (length t - n) (drop n t) ≡ drop n t
left_is t n = ap (λ k. take k (drop n t)) (sym (length-drop n t)) ∙ take-length (drop n t)

pub goes_on : (d : Grammar) (bytes rest : Text) (len : ℕ) → (spaces : Text) × AreAround d spaces × (bytes ≡ spaces ++ rest)
    → len ≡ around_size d rest → (len ≡ 0 → ⊥) → (spaces : Text) × AreAround d spaces × (bytes ≡ spaces ++ drop len rest)
goes_on d bytes rest len w size some = (
  w.0 ++ take len rest,
  rw (← size) at (one_more d w.0 rest w.1 (omega (arith, size, some))),
  w.2 ∙ ap (λ t. w.0 ++ t) (sym (take-append-drop len rest)) ∙ sym (append_assoc w.0 (take len rest) (drop len rest)),
)

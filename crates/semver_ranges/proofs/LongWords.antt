-- Words that are too long for npm: the code decides this from their bytes, and no word of up to
-- `max_build_length` bytes is too long.
use Rattle.std.proofs.Common.{◌≡◌, ℕ, ◌+◌, ◌-◌, ◌≤◌, Bool, true, false, ◌&&◌, ◌||◌, not, List, [], ◌∷◌, ◌++◌, codes, length, take}
use Rattle.std.proofs.Common.{refl, sym, ap, ◌∙◌}
use Rattle.std.proofs.Common.{◌<◌, Some, None, arith, length-append, subst, append-nil}
use Rattle.std.specs.Prelude.{nat_le, if◌then◌else◌, ◌==◌}
use Rattle.std.specs.Char.{is_ascii_digit}
use Rattle.std.specs.List.{AllByRecursion, list_all, join_with_byte}
use Rattle.std.specs.Str.{all_ascii_digits}
use Rattle.std.proofs.lemmas.Bool.Decides.{nat_tests}
use Rattle.std.proofs.lemmas.Bool.{and_parts, and_from}
use Rattle.std.proofs.lemmas.List.Sums.{prefix_len-le-length}
use Rattle.semver_texts.specs.NpmLimits.{max_build_length, max_length}
use Rattle.semver_texts.specs.Texts.{Text, cut_at_dots, is_dot, marked, marked_length}
use Rattle.semver_texts.proofs.Lists.{all_more, by_test, each_passes}
use Rattle.semver_ranges.specs.declared.partial.Components.{Components}
use Rattle.semver_ranges.specs.RangeTree.{PartialTree, one, two, three, Role, SpellsPartial, is_component, components, pre_parts}
use Rattle.semver_ranges.specs.RangeTree.{build_parts}
use Rattle.semver_ranges.specs.RangeTree.{qualifier, has_short_parts, states_three, is_taken_whole, numbers_and_pre, is_short_word}
use Rattle.semver_ranges.specs.NpmLengths.{is_short_number, is_short_pre, is_short_build, is_short_version, leading_digits}
use Rattle.semver_texts.specs.declared.grammar.Grammar.{Grammar}
use Rattle.semver_texts.specs.declared.grammar.Grammar.TheVariants.{Npm}
use Rattle.semver_ranges.specs.Steps.NpmLimits.{are_short_parts, IsBefore}
use Rattle.semver_texts.proofs.PartRuns.{joined_some, marked_is, some_cut, split_joined}
use Rattle.semver_ranges.specs.Steps.Reading.{after_v, component, with_first, whole_word, partial, takes, ends_word}
use Rattle.semver_texts.proofs.DottedParts.{found_same}
use Rattle.semver_ranges.proofs.ReadingPieces.{PartialAt, component_sound, first_sound, length_before, no_v, partial_starts, starts}
use Rattle.semver_ranges.proofs.ReadingPieces.{is_component_byte}
use Rattle.semver_ranges.proofs.WrittenPieces.{first_read}
use Rattle.semver_ranges.specs.Steps.PartialViews.{AreWritten}

-- ---- the text of a partial version: numbers, pre-release and build metadata

qualified : (p : PartialTree) → qualifier p ≡ marked (codes "-") (pre_parts p) ++ marked (codes "+") (build_parts p)
qualified (one a) = refl
qualified (two a b) = refl
qualified (three a b c pre build) = refl

abbrev numbers_of : PartialTree → Text
numbers_of p = join_with_byte 46 (components p)

spelled_parts : (p : PartialTree) (t : Text) → SpellsPartial p t
    → t ≡ numbers_of p ++ (marked (codes "-") (pre_parts p) ++ marked (codes "+") (build_parts p))
spelled_parts p t h = h.2 ∙ ap (λ q. numbers_of p ++ q) (qualified p)

-- components contain no dot, so cutting their text at its dots returns them
no_dot_in_digits : (t : Text) → all_ascii_digits t ≡ true → AllByRecursion (λ b. is_dot b ≡ false) t
no_dot_in_digits [] e = tt
no_dot_in_digits (b ∷ t) e = (grind (arith, nat_tests), no_dot_in_digits t (grind arith))

pub no_dot : (t : Text) → is_component t ≡ true → AllByRecursion (λ b. is_dot b ≡ false) t
no_dot [] e = tt
no_dot (b ∷ []) e = (grind (arith, nat_tests), tt)
no_dot (b ∷ c ∷ t) e = no_dot_in_digits (b ∷ c ∷ t) (grind arith)

pub some_component : (t : Text) → is_component t ≡ true → 0 < length t
some_component [] e = cc
some_component (b ∷ t) e = omega arith

cut_components : (x : Text) (xs : List Text) → list_all is_component (x ∷ xs) ≡ true
    → cut_at_dots (join_with_byte 46 (x ∷ xs)) ≡ x ∷ xs
cut_components x xs e =
    some_cut (join_with_byte 46 (x ∷ xs)) (joined_some x xs (some_component x (and_parts _ _ e).0))
    ∙ split_joined x xs (all_more no_dot (x ∷ xs) (each_passes is_component (x ∷ xs) e))

pub numbers_cut : (p : PartialTree) → list_all is_component (components p) ≡ true → cut_at_dots (numbers_of p) ≡ components p
numbers_cut (one a) e = cut_components a [] e
numbers_cut (two a b) e = cut_components a (b ∷ []) e
numbers_cut (three a b c pre build) e = cut_components a (b ∷ c ∷ []) e

-- ---- lengths

-- the lengths of a text and of its version without build metadata, from the bytes that were read;
-- and the prefix with the numbers
pub record Sizes (p : PartialTree) (c : Components) (t : Text) : Type 0 where
  pub numbers : length t ≡ length (numbers_of p) + marked_length c.pre.now + marked_length c.build.now
  pub version : length (numbers_of p ++ marked (codes "-") (pre_parts p)) ≡ length (numbers_of p) + marked_length c.pre.now
  pub front : take (length (numbers_of p)) t ≡ numbers_of p

take_front : (s t : Text) → take (length s) (s ++ t) ≡ s
take_front [] t = refl
take_front (b ∷ s) t = rw (take_front s t)

pub sizes : (p : PartialTree) (c : Components) (t : Text) → SpellsPartial p t → AreWritten p c → Sizes p c t
sizes p c t h w =
    let whole = spelled_parts p t h in
    let pre = marked_is 45 (pre_parts p) c.pre.now w.pre in
    let build = marked_is 43 (build_parts p) c.build.now w.build in record {
      numbers = rw (whole, length-append, length-append, pre, build) (omega arith);
      version = rw (length-append, pre) refl;
      front = rw whole (take_front (numbers_of p) (marked (codes "-") (pre_parts p) ++ marked (codes "+") (build_parts p)));
    }

-- ---- texts of up to `max_build_length` bytes, the smallest limit

within : (n m : ℕ) → n ≤ m → nat_le n m ≡ true
within n m h = grind (arith, nat_tests)

joined_short : (passes : Text → Bool) (n : ℕ) → ((t : Text) → length t ≤ n → passes t ≡ true) → (x : Text) (xs : List Text)
    → length (join_with_byte 46 (x ∷ xs)) ≤ n → list_all passes (x ∷ xs) ≡ true
joined_short passes n each x [] short = and_from _ _ (each x short) refl
joined_short passes n each x (y ∷ ys) short =
    let size = length-append x (46 ∷ join_with_byte 46 (y ∷ ys)) in
    and_from _ _ (each x (omega (arith, size))) (joined_short passes n each y ys (omega (arith, size)))

marked_short : (passes : Text → Bool) (n : ℕ) → ((t : Text) → length t ≤ n → passes t ≡ true) → (mark : ℕ) (xs : List Text)
    → length (marked (mark ∷ []) xs) ≤ n → list_all passes xs ≡ true
marked_short passes n each mark [] short = refl
marked_short passes n each mark (x ∷ xs) short = joined_short passes n each x xs (omega arith)

short_number : (t : Text) → length t ≤ max_build_length → is_short_number t ≡ true
short_number t h = within (length t) (max_length + 1) (omega arith)

short_build : (t : Text) → length t ≤ max_build_length → is_short_build t ≡ true
short_build t h = within (length t) max_build_length h

short_pre : (t : Text) → length t ≤ max_build_length → is_short_pre t ≡ true
short_pre t h =
    let digits = prefix_len-le-length is_ascii_digit t in
    by_test (leading_digits t == length t)
    (λ y. rw y (short_number t h))
    (λ n. rw n (and_from _ _ (within (leading_digits t) max_length (omega (arith, digits)))
    (within (length t) (leading_digits t + (max_build_length + 1)) (omega (arith, digits)))))

components_short : (p : PartialTree) → length (numbers_of p) ≤ max_build_length → list_all is_short_number (components p) ≡ true
components_short (one a) h = joined_short is_short_number max_build_length short_number a [] h
components_short (two a b) h = joined_short is_short_number max_build_length short_number a (b ∷ []) h
components_short (three a b c pre build) h = joined_short is_short_number max_build_length short_number a (b ∷ c ∷ []) h

-- the results of the code's checks on a word: whether its parts are short, and the length of its
-- version; below, that a word within the smallest limit is short
pub parts_told : (p : PartialTree) (c : Components) (t front : Text) (n : ℕ) → SpellsPartial p t → AreWritten p c
    → n ≡ length t - marked_length c.build.now - marked_length c.pre.now → front ≡ take n t
    → are_short_parts front c.pre.now c.build.now ≡ has_short_parts p
parts_told p c t front n h w e is =
    let size = sizes p c t h w in
    let count : n ≡ length (numbers_of p) = omega (arith, e, size.numbers) in
    let numbers : front ≡ numbers_of p = is ∙ ap (λ k. take k t) count ∙ size.front in
    rw (numbers, numbers_cut p h.0, sym w.pre, sym w.build) refl

pub version_is : (p : PartialTree) (c : Components) (t : Text) → SpellsPartial p t → AreWritten p c
    → length t - marked_length c.build.now ≡ length (numbers_and_pre p)
version_is p c t h w = let size = sizes p c t h w in omega (arith, size.numbers, size.version)

pub marks_within : (p : PartialTree) (c : Components) (t : Text) → SpellsPartial p t → AreWritten p c
    → marked_length c.pre.now + marked_length c.build.now ≤ length t
marks_within p c t h w = let size = sizes p c t h w in omega (arith, size.numbers)

pub short_word : (role : Role) (p : PartialTree) (t : Text) (n : ℕ) → SpellsPartial p t → length t ≤ n → n ≤ max_build_length
    → is_short_word role p n ≡ true
short_word role p t n h less small =
    let pre = marked (codes "-") (pre_parts p) in
    let build = marked (codes "+") (build_parts p) in
    let whole : length t ≡ length (numbers_of p) + (length pre + length build) =
    ap length (spelled_parts p t h) ∙ length-append (numbers_of p) (pre ++ build)
    ∙ ap (λ k. length (numbers_of p) + k) (length-append pre build) in
    let parts : has_short_parts p ≡ true = and_from _ _ (components_short p (omega (arith, whole)))
    (and_from _ _ (marked_short is_short_pre max_build_length short_pre 45 (pre_parts p) (omega (arith, whole)))
    (marked_short is_short_build max_build_length short_build 43 (build_parts p) (omega (arith, whole)))) in
    let version : is_short_version (if is_taken_whole role p then n else length (numbers_and_pre p)) ≡ true = by_test
    (is_taken_whole role p)
    (λ y. rw y (within n max_length (omega arith)))
    (λ no. rw no (within (length (numbers_of p ++ pre)) max_length (omega (arith, whole, length-append (numbers_of p) pre)))) in
    and_from _ _ parts (rw version (or_true (not (states_three p)))) where
      or_true : (b : Bool) → (b || true) ≡ true
      or_true true = refl
      or_true false = refl

-- ---- the word at the beginning of a text

pub before_rest : (d : Grammar) (text after rest : Text) (p : PartialTree) → after ≡ after_v d text
    → with_first (component after) ≡ Some (p, rest) → IsBefore d p text rest
before_rest d text after rest p e found =
    let at : PartialAt after (Some (p, rest)) = subst (λ o. PartialAt after o) found (first_sound after _ (component_sound after)) in
    record { back = at.0; spelled = at.1; after_is = sym e ∙ at.2 }

-- in npm's grammar, the bytes before the rest are a word: without their `v`, they are the text of
-- the partial version
record Front (text rest back : Text) : Type 0 where
  longer : length back + length rest ≤ length text
  partial : after_v Npm (take (length text - length rest) text) ≡ back

word_front : (text rest back : Text) (p : PartialTree) → SpellsPartial p back → after_v Npm text ≡ back ++ rest → Front text rest back
word_front [] rest back p h e =
    let size : 0 ≡ length back + length rest = ap length e ∙ length-append back rest in
    absurd (no_text back (partial_starts p back h) (omega (arith, size))) where
      no_text : (t : Text) → starts is_component_byte t ≡ true → length t ≡ 0 → ⊥
      no_text [] s e = cc
      no_text (b ∷ t) s e = omega (arith, e)
word_front (b ∷ t) rest back p h e = by_test (b == 118)
    (λ y. let whole : t ≡ back ++ rest = rw y at e in
    let size : length t ≡ length back + length rest = ap length whole ∙ length-append back rest in
    let count : length (b ∷ t) - length rest ≡ length (b ∷ back) = omega (arith, size) in
    let front : take (length (b ∷ t) - length rest) (b ∷ t) ≡ b ∷ back =
    ap (λ n. take n (b ∷ t)) count ∙ ap (λ u. take (length (b ∷ back)) (b ∷ u)) whole ∙ take_front (b ∷ back) rest in
    record { longer = omega (arith, size); partial = ap (after_v Npm) front ∙ rw y refl })
    (λ n. let whole : b ∷ t ≡ back ++ rest = rw n at e in
    let size : length (b ∷ t) ≡ length back + length rest = ap length whole ∙ length-append back rest in
    let front : take (length (b ∷ t) - length rest) (b ∷ t) ≡ back =
    ap (λ n. take n (b ∷ t)) (length_before (b ∷ t) back rest whole) ∙ ap (take (length back)) whole ∙ take_front back rest in
    record { longer = omega (arith, size); partial = ap (after_v Npm) front ∙ no_v back (partial_starts p back h) })

module _ (p : PartialTree) (text rest : Text) (w : IsBefore Npm p text rest) where
  found : Front text rest w.back
  found = word_front text rest w.back p w.spelled w.after_is

  pub back_within : length w.back ≤ length text - length rest
  back_within = let size = found.longer in omega (arith, size)

  pub front_spells : SpellsPartial p (after_v Npm (take (length text - length rest) text))
  front_spells = subst (SpellsPartial p) (sym found.partial) w.spelled

-- the text of a partial version is read as that partial version
pub reads_itself : (p : PartialTree) (t : Text) → SpellsPartial p t → with_first (component t) ≡ Some (p, [])
reads_itself p t h = rw append-nil at (first_read p t [] h refl)

pub reads_same : (p p' : PartialTree) (t rest : Text) → SpellsPartial p t → with_first (component t) ≡ Some (p', rest) → p' ≡ p
reads_same p p' t rest h e = (found_same (sym e ∙ reads_itself p t h)).0

pub reads_some : (p : PartialTree) (t : Text) → SpellsPartial p t → with_first (component t) ≡ None → ⊥
reads_some p t h e = let same = sym (reads_itself p t h) ∙ e in none_of same where
  none_of : {X : Type 0} {x : X} → Some x ≡ None → ⊥
  none_of e = cc

-- a partial version that is accepted as a word, and one that isn't
module _ (d : Grammar) (role : Role) (text after rest : Text) (p : PartialTree) (e : after ≡ after_v d text)
    (found : with_first (component after) ≡ Some (p, rest)) where
  word_found : partial d role text ≡ whole_word d role (length text) (Some (p, rest))
  word_found = ap (λ t. whole_word d role (length text) (with_first (component t))) (sym e) ∙ ap (whole_word d role (length text)) found

  pub word_is_read : takes d role p (length text - length rest) ≡ true → ends_word d rest ≡ true
      → partial d role text ≡ Some (p, rest)
  word_is_read taken ends = word_found ∙ rw (taken, ends) refl

  pub word_is_no_word : (takes d role p (length text - length rest) && ends_word d rest) ≡ false → partial d role text ≡ None
  word_is_no_word other = word_found ∙ rw other refl

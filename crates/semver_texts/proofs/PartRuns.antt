-- Parts joined by dots at the beginning of a text, read byte by byte, if hyphens may be anywhere.
use Rattle.std.proofs.Common.{◌≡◌, ◌∙◌, ℕ, Bool, true, false, ◌&&◌, List, [], ◌∷◌, length, take, refl, sym, ap, subst, arith, one-add}
use Rattle.std.proofs.Common.{if◌then◌else◌, ◌<◌, length-append}
use Rattle.std.specs.Prelude.{◌==◌, ◌||◌}
use Rattle.std.specs.List.{AllByRecursion, join_with_byte, list_all, prefix_len, slice_split}
use Rattle.std.proofs.lemmas.List.Elements.{All-from_recursion}
use Rattle.std.proofs.lemmas.List.Splits.{join_with_byte-slice_split, slice_split_at, slice_split_none}
use Rattle.std.proofs.lemmas.Bool.Decides.{nat_tests}
use Rattle.semver_texts.specs.Texts.{Text, cut_at_dots, has_no_leading_zero, is_part, is_part_byte, is_dot, is_dotted_byte, marked, marked_length}
use Rattle.semver_texts.specs.Steps.DottedParts.{begins_oddly, is_odd, odd_after, runs_stand}
use Rattle.semver_texts.proofs.Lists.{Passes, all_more, by_test, each_passes, joined_pass}

-- the first of the pieces between the dots of a text, and the other pieces
abbrev pub first_piece : List Text → Text
first_piece [] = []
first_piece (w ∷ ws) = w

abbrev pub other_pieces : List Text → List Text
other_pieces [] = []
other_pieces (w ∷ ws) = ws

pub pieces : (t : Text) → slice_split is_dot t ≡ first_piece (slice_split is_dot t) ∷ other_pieces (slice_split is_dot t)
pieces [] = refl
pieces (b ∷ t) = grind (arith, pieces t)

-- the longest prefix whose bytes pass a test
abbrev front : (ℕ → Bool) → Text → Text
front p [] = []
front p (b ∷ t) = if p b then b ∷ front p t else []

front_taken : (p : ℕ → Bool) (t : Text) → front p t ≡ take (prefix_len p t) t
front_taken p [] = refl
front_taken p (b ∷ t) = by_test (p b) (λ y. rw (y, one-add, front_taken p t) refl) (λ n. rw n refl)

runs : (t : Text) → let ps : List Text = slice_split is_dot (front is_dotted_byte t) in
    (runs_stand is_part_byte true t ≡ (list_all is_part_byte (first_piece ps) && list_all is_part (other_pieces ps)))
    × (runs_stand is_part_byte false t ≡ list_all is_part ps)
runs [] = (refl, refl)
runs (b ∷ t) = grind (arith, nat_tests, runs t, pieces (front is_dotted_byte t))

-- a text begins with separated runs if and only if each piece between the dots of its longest
-- prefix of dotted bytes is a part
pub runs_ahead : (t : Text) → runs_stand is_part_byte false t ≡ list_all is_part (slice_split is_dot (take (prefix_len is_dotted_byte t) t))
runs_ahead t = rw (← (front_taken is_dotted_byte t)) (runs t).1

-- ---- parts that don't begin with a zero

no_zero_part : (b : ℕ) (t : Text) → (b == 48) ≡ false → has_no_leading_zero (b ∷ t) ≡ true
no_zero_part b [] e = grind (arith, e)
no_zero_part b (c ∷ t) e = grind (arith, e)

odd : (t : Text) → let ps : List Text = slice_split is_dot t in
    (odd_after t ≡ false → list_all has_no_leading_zero (other_pieces ps) ≡ true)
    × (is_odd t ≡ false → odd_after t ≡ false → list_all has_no_leading_zero ps ≡ true)
odd [] = (λ e. refl, λ e _. cc)
odd (b ∷ t) =
    let more = odd t in
    by_test (b == 46)
    (λ y. rw y (λ e. let both = or_false_parts (is_odd t) (odd_after t) e in more.1 both.0 both.1, λ e. cc))
    (λ n. rw (n, pieces t) (more.0, λ e rest. rw (no_zero_part b _ e) (more.0 rest)))
  where
    or_false_parts : (p q : Bool) → (p || q) ≡ false → (p ≡ false) × (q ≡ false)
    or_false_parts true q e = cc
    or_false_parts false q e = (refl, e)

pub no_zero_begins : (t : Text) → begins_oddly t ≡ false → list_all has_no_leading_zero (cut_at_dots t) ≡ true
no_zero_begins [] e = refl
no_zero_begins (b ∷ t) e = grind (arith, odd (b ∷ t))

-- ---- parts and the text that joins them

pub joined_cut : (t : Text) → join_with_byte 46 (cut_at_dots t) ≡ t
joined_cut [] = refl
joined_cut (b ∷ t) = join_with_byte-slice_split 46 _

-- if no text contains a dot, splitting the joined texts at dots gives the texts again
pub split_joined : (t : Text) (ts : List Text) → AllByRecursion (AllByRecursion (λ b. is_dot b ≡ false)) (t ∷ ts)
    → slice_split is_dot (join_with_byte 46 (t ∷ ts)) ≡ t ∷ ts
split_joined t [] all = slice_split_none is_dot t (All-from_recursion _ t all.0)
split_joined t (next ∷ ts) all =
    slice_split_at is_dot t 46 _ (All-from_recursion _ t all.0) refl ∙ rw (split_joined next ts all.1)

pub split_parts : (t : Text) (ts : List Text) → list_all is_part (t ∷ ts) ≡ true
    → slice_split is_dot (join_with_byte 46 (t ∷ ts)) ≡ t ∷ ts
split_parts t ts e = split_joined t ts (all_more no_dots (t ∷ ts) (each_passes is_part (t ∷ ts) e))
  where
    no_dot : (b : ℕ) → is_part_byte b ≡ true → is_dot b ≡ false
    no_dot b h = grind (arith, nat_tests)

    no_dots : (t : Text) → is_part t ≡ true → AllByRecursion (λ b. is_dot b ≡ false) t
    no_dots [] e = tt
    no_dots (b ∷ t) e = all_more no_dot (b ∷ t) (each_passes is_part_byte (b ∷ t) e)

pub joined_some : (t : Text) (ts : List Text) → 0 < length t → 0 < length (join_with_byte 46 (t ∷ ts))
joined_some t [] some = some
joined_some t (next ∷ ts) some = omega (arith, some, length-append t (46 ∷ join_with_byte 46 (next ∷ ts)))

pub some_cut : (t : Text) → 0 < length t → cut_at_dots t ≡ slice_split is_dot t
some_cut [] some = absurd (omega (arith, some))
some_cut (b ∷ t) some = refl

-- the number of bytes of parts with their mark
pub marked_is : (mark : ℕ) (xs : List Text) (t : Text) → xs ≡ cut_at_dots t → length (marked (mark ∷ []) xs) ≡ marked_length t
marked_is mark [] [] e = refl
marked_is mark [] (b ∷ t) e =
    let same : length (b ∷ t) ≡ 0 = sym (ap length (joined_cut (b ∷ t))) ∙ ap (λ l. length (join_with_byte 46 l)) (sym e) in
    absurd (omega (arith, same))
marked_is mark (x ∷ xs) [] e = cc
marked_is mark (x ∷ xs) (b ∷ t) e =
    let same : length (join_with_byte 46 (x ∷ xs)) ≡ length (b ∷ t) =
    ap (λ l. length (join_with_byte 46 l)) e ∙ ap length (joined_cut (b ∷ t)) in
    omega (arith, same)

pub part_passes : (t : Text) → is_part t ≡ true → Passes is_dotted_byte t
part_passes [] e = tt
part_passes (b ∷ t) e = all_more (λ b h. rw h refl) (b ∷ t) (each_passes is_part_byte (b ∷ t) e)

pub parts_pass : (t : Text) → list_all is_part (cut_at_dots t) ≡ true → Passes is_dotted_byte t
parts_pass t e =
    subst (Passes is_dotted_byte) (joined_cut t)
    (joined_pass is_dotted_byte 46 refl (cut_at_dots t) (all_more part_passes (cut_at_dots t) (each_passes is_part _ e)))

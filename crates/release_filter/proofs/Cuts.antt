-- How bytes are cut into lines.
use Rattle.std.proofs.Common.{◌≡◌, ◌≢◌, ◌∙◌, ◌++◌, ◌∷◌, ◌<◌, ◌-◌, ◌==◌, ◌&&◌, [], List, ℕ, Bool, true, false, cond, refl, sym, ap, ap₂}
use Rattle.std.proofs.Common.{append_assoc, arith, get_or, length, length-append, suc, All, drop, ne_eqb, rules}
use Rattle.std.proofs.BufReadLemmas.{through_part}
use Rattle.std.proofs.lemmas.Grind.{common_steps}
use Rattle.std.proofs.lemmas.List.Elements.{All-drop, All-head, All-tail}
use Rattle.std.proofs.lemmas.List.Folds.{concat-append}
use Rattle.std.proofs.lemmas.List.{drop_all, take-append-drop}
use Rattle.std.specs.Io.{IsEmptyOrEndsWith, StartsWith}
use Rattle.std.specs.Io.BufRead.{drop_through, take_through}
use Rattle.std.specs.List.{AllByRecursion, concat}
use Rattle.semver_texts.specs.Texts.{Text, is_empty}
use Rattle.release_filter.specs.LineTexts.{AreCut, IsWholeLine, after_mark, end_byte, lines_of, marked_off, onto_first, without_mark}
use Rattle.release_filter.specs.Steps.Taking.{some_line}
use Rattle.release_filter.specs.declared.line_texts.LineEnd.{LineEnd}
use Rattle.release_filter.specs.declared.line_texts.LineEnd.TheVariants.{LineFeed, ZeroByte}
use Rattle.release_filter.proofs.Tests.{all_append}

abbrev pub NoEnd : ℕ → Text → Type 0
NoEnd end bytes = All (λ b. b ≢ end) bytes

-- ---- the first line

module _ (end : ℕ) where
  through : (line rest : Text) → IsWholeLine end line
      → (take_through end (line ++ rest) ≡ line) × (drop_through end (line ++ rest) ≡ rest)
  through line rest (some, stops, ends) = through_part end line rest stops ends (λ none. absurd (omega arith))

  lines_from : (x : ℕ) (xs : List ℕ) → lines_of end (x ∷ xs) ≡ take_through end (x ∷ xs) ∷ lines_of end (drop_through end (x ∷ xs))
  lines_from x [] = search rules
  lines_from x (y ∷ ys) = grind (arith, drop_through, onto_first, lines_from y ys)

  first_line : (xs : List ℕ) → 0 < length xs → lines_of end xs ≡ take_through end xs ∷ lines_of end (drop_through end xs)
  first_line [] some = absurd (omega arith)
  first_line (x ∷ xs) some = lines_from x xs

  pub lines_before : (line rest : Text) → IsWholeLine end line → lines_of end (line ++ rest) ≡ line ∷ lines_of end rest
  lines_before line rest whole =
      let first = through line rest whole in
      first_line (line ++ rest) (omega (arith, length-append line rest)) ∙ ap₂ (λ l more. l ∷ lines_of end more) first.0 first.1

  pub cut_lines : (lines : List Text) (rest : Text) → AllByRecursion (IsWholeLine end) lines
      → lines_of end (concat lines ++ rest) ≡ lines ++ lines_of end rest
  cut_lines [] rest each = refl
  cut_lines (line ∷ lines) rest each = grind (arith, append_assoc, lines_before, cut_lines lines rest each.1)

  -- ---- a line without an end

  one_left : (x : ℕ) (xs : Text) → NoEnd end (x ∷ xs) → lines_of end (x ∷ xs) ≡ (x ∷ xs) ∷ []
  one_left x [] none = search rules
  one_left x (y ∷ ys) none =
      ap (λ b. cond b ((x ∷ []) ∷ lines_of end (y ∷ ys)) (onto_first x (lines_of end (y ∷ ys)))) (ne_eqb x end (All-head
      (λ z. z ≢ end) x (y ∷ ys)
      none))
      ∙ ap (onto_first x) (one_left y ys (All-tail (λ z. z ≢ end) x (y ∷ ys) none))

  pub only_line : (l : Text) → NoEnd end l → lines_of end l ≡ some_line l
  only_line [] none = refl
  only_line (x ∷ xs) none = one_left x xs none

  pub first_of_none : (bytes : Text) → 0 < length bytes → NoEnd end bytes → lines_of end bytes ≡ bytes ∷ lines_of end (drop
      (length bytes) bytes)
  first_of_none [] some none = absurd (omega arith)
  first_of_none (x ∷ xs) some none =
      one_left x xs none ∙ ap (λ l. (x ∷ xs) ∷ lines_of end l) (sym (drop_all (length (x ∷ xs)) (x ∷ xs) (omega arith)))

  pub first_of_all : (bytes line : Text) → StartsWith bytes line → IsWholeLine end line
      → lines_of end bytes ≡ line ∷ lines_of end (drop (length line) bytes)
  first_of_all bytes line begins whole =
      let parts : line ++ drop (length line) bytes ≡ bytes =
      ap (λ l. l ++ drop (length line) bytes) (sym begins) ∙ take-append-drop (length line) bytes in
      ap (lines_of end) (sym parts) ∙ lines_before line (drop (length line) bytes) whole

  -- ---- whole lines

  pub whole_after : (begun last : Text) → NoEnd end begun → IsWholeLine end last → IsWholeLine end (begun ++ last)
  whole_after begun last none (some, stops, ends) = grind (arith, common_steps)

  pub whole_tail : (x y : ℕ) (ys : Text) → IsWholeLine end (x ∷ y ∷ ys) → IsWholeLine end (y ∷ ys)
  whole_tail x y ys (some, stops, ends) =
      let long : length (x ∷ y ∷ ys) - 1 ≡ suc (length ys) = omega arith in
      let less : length (y ∷ ys) - 1 ≡ length ys = omega arith in
      let before = All-tail (λ b. b ≢ end) x _ (rw long at stops) in (
        omega arith,
        rw less before,
        λ more. ap (λ n. get_or (y ∷ ys) n 0) less ∙ sym (cc) ∙ ends (omega arith),
      )

  ends_tail : (x y : ℕ) (ys : Text) → IsEmptyOrEndsWith (x ∷ y ∷ ys) end → IsEmptyOrEndsWith (y ∷ ys) end
  ends_tail x y ys ends =
      let long : length (x ∷ y ∷ ys) - 1 ≡ suc (length ys) = omega arith in
      let less : length (y ∷ ys) - 1 ≡ length ys = omega arith in
      λ some. ap (λ n. get_or (y ∷ ys) n 0) less ∙ sym (ap (λ n. get_or (x ∷ y ∷ ys) n 0) long) ∙ ends (omega arith)

  -- the lines of some bytes, joined, are these bytes; below, each line is whole if the bytes end with
  -- the byte that ends lines
  pub concat_lines : (xs : Text) → concat (lines_of end xs) ≡ xs
  concat_lines [] = refl
  concat_lines (x ∷ xs) = by_end _ (lines_of end xs) (concat_lines xs)
    where
      by_end : (is : Bool) (lines : List Text) → concat lines ≡ xs → concat (cond is ((x ∷ []) ∷ lines) (onto_first x lines)) ≡ x ∷ xs
      by_end true lines e = ap (λ l. x ∷ l) e
      by_end false [] e = ap (λ l. x ∷ l) e
      by_end false (l ∷ ls) e = ap (λ l. x ∷ l) e

  pub each_whole : (xs : Text) → IsEmptyOrEndsWith xs end → AllByRecursion (IsWholeLine end) (lines_of end xs)
  each_whole [] ends = tt
  each_whole (x ∷ []) ends = by_end _
    where
      one : IsWholeLine end (x ∷ [])
      one = (omega arith, λ k d inside. absurd (omega arith), λ some. ends (omega arith))

      by_end : (is : Bool) → AllByRecursion (IsWholeLine end) (cond is ((x ∷ []) ∷ []) (onto_first x []))
      by_end true = (one, tt)
      by_end false = (one, tt)
  each_whole (x ∷ y ∷ ys) ends =
      by_end _ refl (lines_of end (y ∷ ys)) (each_whole (y ∷ ys) (ends_tail x y ys ends)) (λ none. cc (lines_from y ys, none))
    where
      by_end : (is : Bool) → (x == end) ≡ is → (lines : List Text) → AllByRecursion (IsWholeLine end) lines → (lines ≡ [] → ⊥)
          → AllByRecursion (IsWholeLine end) (cond is ((x ∷ []) ∷ lines) (onto_first x lines))
      by_end true e lines all some =
          ((omega arith, λ k d inside. absurd (omega arith), λ more. search rules), all)
      by_end false e [] all some = absurd (some refl)
      by_end false e (l ∷ ls) all some =
          (whole_after (x ∷ []) l (not_end e) all.0, all.1)
        where
          not_end : (x == end) ≡ false → NoEnd end (x ∷ [])
          not_end e = search rules

  -- ---- bytes are cut in only one way

  pub same_lines : (xs ys : List Text) (a b : Text) → AllByRecursion (IsWholeLine end) xs → AllByRecursion (IsWholeLine end) ys
      → NoEnd end a → NoEnd end b
      → concat xs ++ a ≡ concat ys ++ b → (xs ≡ ys) × (a ≡ b)
  same_lines [] [] a b f g n m e = (refl, e)
  same_lines [] (y ∷ ys) a b f g n m e = grind (arith, common_steps)
  same_lines (x ∷ xs) [] a b f g n m e = grind (arith, common_steps)
  same_lines (x ∷ xs) (y ∷ ys) a b f g n m e =
      let both = sym (append_assoc x (concat xs) a) ∙ e ∙ append_assoc y (concat ys) b in
      let first = through x (concat xs ++ a) f.0 in
      let other = through y (concat ys ++ b) g.0 in
      let later = same_lines xs ys a b f.1 g.1 n m (cc) in
      (ap₂ (λ l ls. l ∷ ls) (cc) later.0, later.1)

  pub one_cut : (bytes : Text) (xs ys : List Text) (a b : Text) → AreCut end bytes xs a → AreCut end bytes ys b → (xs ≡ ys) × (a ≡ b)
  one_cut bytes xs ys a b p q = same_lines xs ys a b p.each q.each p.no_end q.no_end (sym p.whole ∙ q.whole)

  -- ---- one cut after another

  pub cut_none : (bytes : Text) → NoEnd end bytes → AreCut end bytes [] bytes
  cut_none bytes none = record { each = tt; no_end = none; whole = refl }

  pub cut_append : (bytes more rest left : Text) (xs ys : List Text) → AreCut end bytes xs rest → AreCut end (rest ++ more) ys left
      → AreCut end (bytes ++ more) (xs ++ ys) left
  cut_append bytes more rest left xs ys a b = record {
    each = all_append (IsWholeLine end) xs ys a.each b.each;
    no_end = b.no_end;
    whole = ap (λ l. l ++ more) a.whole ∙ append_assoc (concat xs) rest more
        ∙ ap (λ l. concat xs ++ l) b.whole ∙ sym (append_assoc (concat xs) (concat ys) left)
        ∙ ap (λ l. l ++ left) (sym (concat-append xs ys));
  }

  -- if no line ends in some bytes, they are a prefix of the first whole line, and the rest of that line
  -- is whole itself
  pub front_of : (front more line rest : Text) → NoEnd end front → IsWholeLine end line → front ++ more ≡ line ++ rest
      → (last : Text) × (line ≡ front ++ last) × (more ≡ last ++ rest) × IsWholeLine end last
  front_of [] more line rest none whole e = (line, refl, e, whole)
  front_of (x ∷ front) more [] rest none whole e = absurd (omega (arith, whole.0))
  front_of (x ∷ front) more (y ∷ []) rest none whole e =
      let same : x ≡ y = cc in absurd (All-head (λ b. b ≢ end) x front none (same ∙ whole.2 (omega arith)))
  front_of (x ∷ front) more (y ∷ z ∷ line) rest none whole e =
      let same : x ≡ y = cc in
      let later = front_of front more (z ∷ line) rest (All-tail (λ b. b ≢ end) x front none) (whole_tail y z line whole) (cc) in
      (later.0, ap₂ (λ b l. b ∷ l) (sym same) later.1, later.2, later.3)

-- ---- after a byte order mark

pub no_end_marked : (end : ℕ) (front : Bool) (line : Text) → NoEnd end line → NoEnd end (after_mark front line)
no_end_marked end false line none = none
no_end_marked end true [] none = none
no_end_marked end true (a ∷ []) none = none
no_end_marked end true (a ∷ b ∷ []) none = none
no_end_marked end true (a ∷ b ∷ c ∷ text) none = by_mark _
  where
    by_mark : (is : Bool) → NoEnd end (cond is text (a ∷ b ∷ c ∷ text))
    by_mark true = All-drop (λ x. x ≢ end) 3 (a ∷ b ∷ c ∷ text) none
    by_mark false = none

pub off_append : (front : Bool) (xs ys : List Text) → marked_off front (xs ++ ys) ≡ marked_off front xs ++ marked_off (front && is_empty
    xs) ys
off_append front [] ys = search rules
off_append front (x ∷ xs) ys = search rules

pub front_append : (front : Bool) (xs ys : List Text) → ((front && is_empty xs) && is_empty ys) ≡ (front && is_empty (xs ++ ys))
front_append front [] ys = search rules
front_append front (x ∷ xs) ys = search rules

abbrev pub is_mark : ℕ → ℕ → ℕ → Bool
is_mark a b c = (a == 0xEF) && ((b == 0xBB) && (c == 0xBF))

-- three bytes aren't a byte order mark if the byte that ends lines is among them
no_mark_first : (ending : LineEnd) (a b c : ℕ) → a ≡ end_byte ending → is_mark a b c ≡ false
no_mark_first LineFeed a b c is = search rules
no_mark_first ZeroByte a b c is = search rules

no_mark_second : (ending : LineEnd) (a b c : ℕ) → b ≡ end_byte ending → is_mark a b c ≡ false
no_mark_second LineFeed a b c is = search rules
no_mark_second ZeroByte a b c is = search rules

pub no_mark : (ending : LineEnd) (a b c : ℕ) → c ≡ end_byte ending → is_mark a b c ≡ false
no_mark LineFeed a b c is = search rules
no_mark ZeroByte a b c is = search rules

-- the byte order mark of a text is that of its first line, which is whole without it, too
module _ (ending : LineEnd) where
  pub first_marked : (line rest : Text) → IsWholeLine (end_byte ending) line
      → (without_mark (line ++ rest) ≡ without_mark line ++ rest) × IsWholeLine (end_byte ending) (without_mark line)
  first_marked [] rest whole = absurd (omega (arith, whole.0))
  first_marked (a ∷ []) rest whole = (by_rest rest, whole)
    where
      by_rest : (rest : Text) → without_mark ((a ∷ []) ++ rest) ≡ (a ∷ []) ++ rest
      by_rest [] = refl
      by_rest (b ∷ []) = refl
      by_rest (b ∷ c ∷ more) =
          ap (λ m. cond m more (a ∷ b ∷ c ∷ more)) (no_mark_first ending a b c (whole.2 (omega arith)))
  first_marked (a ∷ b ∷ []) rest whole = (by_rest rest, whole)
    where
      by_rest : (rest : Text) → without_mark ((a ∷ b ∷ []) ++ rest) ≡ (a ∷ b ∷ []) ++ rest
      by_rest [] = refl
      by_rest (c ∷ more) =
          ap (λ m. cond m more (a ∷ b ∷ c ∷ more)) (no_mark_second ending a b c (whole.2 (omega arith)))
  first_marked (a ∷ b ∷ c ∷ []) rest whole =
      by_mark _ (no_mark ending a b c (whole.2 (omega arith)))
    where
      by_mark : (m : Bool) → m ≡ false → (cond m rest (a ∷ b ∷ c ∷ rest) ≡ cond m [] (a ∷ b ∷ c ∷ []) ++ rest)
          × IsWholeLine (end_byte ending) (cond m [] (a ∷ b ∷ c ∷ []))
      by_mark true e = cc
      by_mark false e = (refl, whole)
  first_marked (a ∷ b ∷ c ∷ d ∷ more) rest whole = by_mark _
    where
      by_mark : (m : Bool) → (cond m (d ∷ more ++ rest) (a ∷ b ∷ c ∷ d ∷ more ++ rest) ≡ cond m (d ∷ more) (a ∷ b ∷ c ∷ d ∷ more) ++ rest)
          × IsWholeLine (end_byte ending) (cond m (d ∷ more) (a ∷ b ∷ c ∷ d ∷ more))
      by_mark true = (
        refl,
        whole_tail (end_byte ending) c d more
            (whole_tail (end_byte ending) b c (d ∷ more) (whole_tail (end_byte ending) a b (c ∷ d ∷ more) whole)),
      )
      by_mark false = (refl, whole)

  pub whole_marked : (front : Bool) (line : Text) → IsWholeLine (end_byte ending) line → IsWholeLine (end_byte ending)
      (after_mark front line)
  whole_marked false line whole = whole
  whole_marked true line whole = (first_marked line [] whole).1

  pub marked_lines : (lines : List Text) (rest : Text) → AllByRecursion (IsWholeLine (end_byte ending)) lines
      → lines_of (end_byte ending) (without_mark (concat lines ++ rest))
      ≡ marked_off true lines ++ lines_of (end_byte ending) (after_mark (is_empty lines) rest)
  marked_lines [] rest each = refl
  marked_lines (line ∷ lines) rest each =
      let first = first_marked line (concat lines ++ rest) each.0 in
      ap (λ l. lines_of (end_byte ending) (without_mark l)) (append_assoc line (concat lines) rest)
      ∙ ap (lines_of (end_byte ending)) first.0
      ∙ lines_before (end_byte ending) (without_mark line) (concat lines ++ rest) first.1
      ∙ ap (λ l. without_mark line ∷ l) (cut_lines (end_byte ending) lines rest each.1)

pub some_whole : (end : ℕ) (line : Text) → IsWholeLine end line → some_line line ≡ line ∷ []
some_whole end [] whole = absurd (omega (arith, whole.0))
some_whole end (x ∷ xs) whole = refl

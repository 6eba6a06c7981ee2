-- Lines with the same verdicts, since they begin with the same bytes.
use Rattle.std.proofs.Common.{◌≡◌, ◌≢◌, ◌∙◌, ◌⊎◌, ◌++◌, ◌∷◌, ◌≤◌, ◌<◌, [], List, ℕ, Bool, true, false, cond, refl, sym, ap, subst, inl, inr}
use Rattle.std.proofs.Common.{append_assoc, append-nil, arith, length, length-append, length-take, map, take, drop}
use Rattle.std.proofs.lemmas.Bool.{cases_lt}
use Rattle.std.proofs.lemmas.Grind.{common_steps}
use Rattle.std.proofs.lemmas.List.{take-append-drop, take-append-le, take-take}
use Rattle.std.proofs.lemmas.List.Elements.{All-append, All-drop, All-take}
use Rattle.std.specs.Io.BufRead.{strip_last}
use Rattle.std.specs.List.{concat}
use Rattle.semver_texts.specs.Texts.{Text, is_empty}
use Rattle.release_filter.specs.LineTexts.{AreCut, after_mark, end_byte, ended, lines_in, lines_of, longest_front, marked_off}
use Rattle.release_filter.specs.Pieces.{FoldValue, Stops, TakesLines}
use Rattle.release_filter.specs.Steps.Taking.{closing, some_line}
use Rattle.release_filter.specs.Verdicts.{AreVerdictsOn, IsVerdictOn, LineRule, Verdict}
use Rattle.release_filter.specs.declared.line_texts.LineEnd.{LineEnd}
use Rattle.release_filter.specs.declared.lines.LinesError.{LinesError}
use Rattle.release_filter.specs.Counting.{CountsValue}
use Rattle.release_filter.proofs.Cuts.{NoEnd, front_of, no_end_marked, no_mark, only_line, whole_after}
use Rattle.release_filter.proofs.LongLines.{marked_append, marked_length, same_front, take_all}

-- ---- each verdict on some lines is also one on others

module _ (rule : LineRule) where
  abbrev pub ShowsLine : Text → Text → Type 0
  ShowsLine x y = (v : Verdict) → IsVerdictOn rule x v → IsVerdictOn rule y v

  abbrev pub Shows : List Text → List Text → Type 0
  Shows [] [] = Unit {0}
  Shows [] (y ∷ ys) = ⊥
  Shows (x ∷ xs) [] = ⊥
  Shows (x ∷ xs) (y ∷ ys) = ShowsLine x y × Shows xs ys

  pub shows_same : (xs : List Text) → Shows xs xs
  shows_same [] = tt
  shows_same (x ∷ xs) = (λ v is. is, shows_same xs)

  verdicts_shown : (xs ys : List Text) (vs : List Verdict) → Shows xs ys → AreVerdictsOn rule xs vs → AreVerdictsOn rule ys vs
  verdicts_shown [] [] vs s p = p
  verdicts_shown [] (y ∷ ys) vs s p = absurd s
  verdicts_shown (x ∷ xs) [] vs s p = absurd s
  verdicts_shown (x ∷ xs) (y ∷ ys) [] s p = absurd p
  verdicts_shown (x ∷ xs) (y ∷ ys) (v ∷ vs) s p = (s.0 v p.0, verdicts_shown xs ys vs s.1 p.1)

  shows_split : (xs zs ys : List Text) → Shows (xs ++ zs) ys → (us vs : List Text) × (ys ≡ us ++ vs) × Shows xs us
  shows_split [] zs ys s = ([], ys, refl, tt)
  shows_split (x ∷ xs) zs [] s = absurd s
  shows_split (x ∷ xs) zs (y ∷ ys) s =
      let rest = shows_split xs zs ys s.1 in (y ∷ rest.0, rest.1, ap (λ l. y ∷ l) rest.2, (s.0, rest.3))

pub takes_shown : (f g : FoldValue) (xs ys : List Text) (old new : Text) → Shows f.rule xs ys → TakesLines f xs g old new
    → TakesLines f ys g old new
takes_shown f g xs ys old new s a = record {
  verdicts = a.verdicts;
  folds = record {
    each = verdicts_shown f.rule xs ys a.verdicts s a.folds.each;
    added = a.folds.added;
    holds = a.folds.holds;
    appended = a.folds.appended;
    state = a.folds.state;
  };
  valid = a.valid;
}

pub stops_shown : (e : LinesError) (f : FoldValue) (xs ys : List Text) (c : CountsValue) (old new : Text) → Shows f.rule xs ys
    → Stops e f xs c old new → Stops e f ys c old new
stops_shown e f xs ys c old new s a =
    let parts = shows_split f.rule a.taken a.others ys (subst (λ l. Shows f.rule l ys) a.parts s) in
    record {
      taken = parts.0;
      others = parts.1;
      parts = parts.2;
      verdicts = a.verdicts;
      left = a.left;
      folds = record {
        each = verdicts_shown f.rule a.taken parts.0 a.verdicts parts.3 a.folds.each;
        added = a.folds.added;
        holds = a.folds.holds;
        appended = a.folds.appended;
        state = a.folds.state;
      };
      counts_left = a.counts_left;
      why = a.why;
    }

-- ---- a line whose first bytes are held

pub some_long : (line : Text) → 0 < length line → some_line line ≡ line ∷ []
some_long [] some = absurd (omega arith)
some_long (x ∷ xs) some = refl

pub whole_front : (line : Text) → length line ≤ longest_front → take longest_front line ≡ line
whole_front line few = take_all longest_front line few

module _ (rule : LineRule) (front : Bool) where
  -- the held bytes of a long line, with `last` after them, have the same verdict as the whole line with
  -- `last` after it
  pub shows_after : (line last : Text) → longest_front < length line
      → ShowsLine rule (after_mark front (take longest_front line ++ last)) (after_mark front (line ++ last))
  shows_after line last more = λ v is.
      let held = take longest_front line in
      let whole = ap (λ l. l ++ last) (take-append-drop longest_front line) in
      subst (λ l. IsVerdictOn rule (after_mark front l) v) (sym (append_assoc held (drop longest_front line) last) ∙ whole)
      (same_front rule front held last (drop longest_front line ++ last) v (omega (arith, length-take longest_front line)) is)

  -- a line has the verdict of its first `longest_front` bytes
  pub shows_held : (line : Text) → Shows rule (some_line (after_mark front (take longest_front line))) (some_line (after_mark front line))
  shows_held line = by_size (cases_lt longest_front (length line))
    where
      by_size : (longest_front < length line) ⊎ (length line ≤ longest_front)
          → Shows rule (some_line (after_mark front (take longest_front line))) (some_line (after_mark front line))
      by_size (inr few) =
          subst (λ l. Shows rule (some_line (after_mark front l)) (some_line (after_mark front line))) (sym (whole_front line few))
          (shows_same rule (some_line (after_mark front line)))
      by_size (inl more) =
          let held = take longest_front line in
          let one = some_long (after_mark front held) (omega (arith, marked_length front held, length-take longest_front line)) in
          let other = some_long (after_mark front line) (omega (arith, marked_length front line)) in
          let ends = subst (λ l. ShowsLine rule (after_mark front l) (after_mark front (line ++ []))) (append-nil held)
          (shows_after line [] more) in
          rw (one, other) (subst (λ l. ShowsLine rule (after_mark front held) (after_mark front l)) (append-nil line) ends, tt)

-- ---- a last line without an end

abbrev pub closed_by : Bool → ℕ → Text
closed_by closes end = cond closes (end ∷ []) []

strip_none : (end : ℕ) (xs : Text) → NoEnd end xs → strip_last end xs ≡ xs
strip_none end [] none = refl
strip_none end (x ∷ xs) none = grind (arith, common_steps)

mark_before : (ending : LineEnd) (front : Bool) (line : Text)
    → after_mark front (line ++ end_byte ending ∷ []) ≡ after_mark front line ++ end_byte ending ∷ []
mark_before ending false line = refl
mark_before ending true [] = refl
mark_before ending true (a ∷ []) = refl
mark_before ending true (a ∷ b ∷ []) =
    ap (λ is. cond is [] (a ∷ b ∷ end_byte ending ∷ [])) (no_mark ending a b (end_byte ending) refl)
mark_before ending true (a ∷ b ∷ c ∷ more) = marked_append true (a ∷ b ∷ c ∷ more) (end_byte ending ∷ []) (omega arith)

module _ (ending : LineEnd) (front closes : Bool) where
  abbrev end : ℕ
  end = end_byte ending

  pub no_last : (line : Text) → after_mark front line ≡ [] → lines_in closes end (after_mark front line) ≡ []
  no_last line none = rw none (by_closes closes)
    where
      by_closes : (is : Bool) → lines_in is end [] ≡ []
      by_closes true = refl
      by_closes false = refl

  pub one_last : (line : Text) → NoEnd end line → 0 < length (after_mark front line)
      → lines_in closes end (after_mark front line) ≡ after_mark front (line ++ closed_by closes end) ∷ []
  one_last line none some =
      let only = only_line end (after_mark front line) (no_end_marked end front line none) ∙ some_long (after_mark front line) some in
      by_closes closes only
    where
      by_closes : (is : Bool) → lines_of end (after_mark front line) ≡ after_mark front line ∷ []
          → lines_in is end (after_mark front line) ≡ after_mark front (line ++ closed_by is end) ∷ []
      by_closes true only =
          ap (λ l. map (λ (x : Text). ended end x) l) only
          ∙ ap (λ (l : Text). (l ++ end ∷ []) ∷ []) (strip_none end (after_mark front line) (no_end_marked end front line none))
          ∙ ap (λ (l : Text). l ∷ []) (sym (mark_before ending front line))
      by_closes false only = only ∙ ap (λ (l : Text). after_mark front l ∷ []) (sym (append-nil line))

  -- `lines_in` returns the last line with the end that it gets, or no line if it is empty
  pub last_closed : (line : Text) → NoEnd end line
      → some_line (after_mark front (line ++ closing closes (after_mark front line) (end ∷ []))) ≡ lines_in closes end
      (after_mark front line)
  last_closed line none = by_line (after_mark front line) refl
    where
      by_line : (marked : Text) → after_mark front line ≡ marked
          → some_line (after_mark front (line ++ closing closes marked (end ∷ []))) ≡ lines_in closes end (after_mark front line)
      by_line [] is =
          ap (λ l. some_line (after_mark front (line ++ l))) (none_closed closes) ∙ ap (λ l. some_line (after_mark front l))
          (append-nil line)
          ∙ ap some_line is ∙ sym (no_last line is)
        where
          none_closed : (closes : Bool) → closing closes [] (end ∷ []) ≡ []
          none_closed true = refl
          none_closed false = refl
      by_line (x ∷ xs) is =
          ap (λ l. some_line (after_mark front (line ++ l))) (all_closed closes) ∙ some_long _ (long closes)
          ∙ sym (one_last line none (omega (arith, ap length is)))
        where
          all_closed : (closes : Bool) → closing closes (x ∷ xs) (end ∷ []) ≡ closed_by closes end
          all_closed true = refl
          all_closed false = refl

          long : (closes : Bool) → 0 < length (after_mark front (line ++ closed_by closes end))
          long true = omega (arith, ap length (mark_before ending front line), length-append (after_mark front line) (end ∷ []))
          long false = omega (arith, ap (λ l. length (after_mark front l)) (append-nil line), ap length is)

  -- the last line has the verdict of its first `longest_front` bytes
  pub shows_last : (rule : LineRule) (line : Text) → NoEnd end line
      → Shows rule (lines_in closes end (after_mark front (take longest_front line))) (lines_in closes end (after_mark front line))
  shows_last rule line none = by_size (cases_lt longest_front (length line))
    where
      by_size : (longest_front < length line) ⊎ (length line ≤ longest_front)
          → Shows rule (lines_in closes end (after_mark front (take longest_front line))) (lines_in closes end (after_mark front line))
      by_size (inr few) =
          subst (λ l. Shows rule (lines_in closes end (after_mark front l)) (lines_in closes end (after_mark front line)))
          (sym (whole_front line few)) (shows_same rule (lines_in closes end (after_mark front line)))
      by_size (inl more) =
          let held = take longest_front line in
          let one = one_last held (All-take (λ b. b ≢ end) longest_front line none)
          (omega (arith, marked_length front held, length-take longest_front line)) in
          let other = one_last line none (omega (arith, marked_length front line)) in
          rw (one, other) (shows_after rule front line (closed_by closes end) more, tt)

-- ---- a piece after the held bytes

drop_front : (xs ys : Text) → drop (length xs) (xs ++ ys) ≡ ys
drop_front [] ys = refl
drop_front (x ∷ xs) ys = drop_front xs ys

-- `lines` and `left` were cut from the held bytes and a piece. If instead all bytes and the piece are
-- cut, the lines have the same verdicts, and the bytes after them have the same beginning
pub record Continues (end : ℕ) (rule : LineRule) (front : Bool) (bytes : Text) (lines : List Text) (left : Text) : Type 0 where
  pub whole_lines : List Text
  pub whole_left : Text
  pub cut : AreCut end bytes whole_lines whole_left
  pub shows : Shows rule (marked_off front lines) (marked_off front whole_lines)
  pub same_none : is_empty lines ≡ is_empty whole_lines
  pub same_left : take longest_front left ≡ take longest_front whole_left

module _ (end : ℕ) (rule : LineRule) (front : Bool) where
  pub continues : (rest piece : Text) (lines : List Text) (left : Text) → NoEnd end rest
      → AreCut end (take longest_front rest ++ piece) lines left → Continues end rule front (rest ++ piece) lines left
  continues rest piece lines left none cut = by_size (cases_lt longest_front (length rest))
    where
      held : Text
      held = take longest_front rest

      by_lines : longest_front < length rest → (lines : List Text) → AreCut end (held ++ piece) lines left
          → Continues end rule front (rest ++ piece) lines left
      by_lines more [] cut =
          let whole : NoEnd end (held ++ piece) = subst (NoEnd end) (sym cut.whole) cut.no_end in
          let after = subst (NoEnd end) (drop_front held piece) (All-drop (λ b. b ≢ end) (length held) (held ++ piece) whole) in
          record {
            whole_lines = [];
            whole_left = rest ++ piece;
            cut = record { each = tt; no_end = All-append (λ b. b ≢ end) rest piece none after; whole = refl };
            shows = tt;
            same_none = refl;
            same_left = ap (take longest_front) (sym cut.whole)
                ∙ take-append-le longest_front held piece (omega (arith, length-take longest_front rest))
                ∙ take-take longest_front longest_front rest (omega arith)
                ∙ sym (take-append-le longest_front rest piece (omega arith));
          }
      by_lines more (line ∷ lines) cut =
          let f = front_of end held piece line (concat lines ++ left) (All-take (λ b. b ≢ end) longest_front rest none) cut.each.0
          (cut.whole ∙ append_assoc line (concat lines) left) in
          record {
            whole_lines = (rest ++ f.0) ∷ lines;
            whole_left = left;
            cut = record {
              each = (whole_after end rest f.0 none f.3, cut.each.1);
              no_end = cut.no_end;
              whole = ap (λ l. rest ++ l) f.2 ∙ sym (append_assoc rest f.0 (concat lines ++ left))
                  ∙ sym (append_assoc (rest ++ f.0) (concat lines) left);
            };
            shows = (
              λ v is. shows_after rule front rest f.0 more v (subst (λ l. IsVerdictOn rule (after_mark front l) v) f.1 is),
              shows_same rule lines,
            );
            same_none = refl;
            same_left = refl;
          }

      by_size : (longest_front < length rest) ⊎ (length rest ≤ longest_front) → Continues end rule front (rest ++ piece) lines left
      by_size (inr few) = record {
        whole_lines = lines;
        whole_left = left;
        cut = subst (λ l. AreCut end (l ++ piece) lines left) (whole_front rest few) cut;
        shows = shows_same rule (marked_off front lines);
        same_none = refl;
        same_left = refl;
      }
      by_size (inl more) = by_lines more lines cut

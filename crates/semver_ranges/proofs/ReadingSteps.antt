-- The reader's recursive functions as equations without the limit on their depth, and the length of
-- the rest that each leaves.
use Rattle.std.proofs.Common.{◌≡◌, ℕ, zero, suc, ◌<◌, ◌≤◌, Bool, true, false, List, [], ◌∷◌, length, refl}
use Rattle.std.proofs.Common.{ap, Option, Some, None, arith, length-append}
use Rattle.semver_texts.specs.declared.grammar.Grammar.{Grammar}
use Rattle.semver_texts.specs.declared.grammar.Grammar.TheVariants.{Crate, Cargo, Npm}
use Rattle.semver_ranges.specs.declared.operator.Operator.{Operator}
use Rattle.semver_ranges.specs.RangeTree.{PartialTree, Simple, RangeTree, SetTree, is_blank, Role, after_operator, after_hyphen}
use Rattle.semver_texts.specs.Texts.{Text}
use Rattle.semver_ranges.proofs.ReadingPieces.{front-back, WordAt, partial_sound, starts, is_word_byte, word_starts, SimpleAt}
use Rattle.semver_ranges.proofs.ReadingPieces.{simple_sound, FormAt, operator_sound}
use Rattle.semver_ranges.specs.Steps.Reading.{back, after_blanks, ends_range, operator_at, partial, simple, put_before}
use Rattle.semver_texts.specs.Texts.{begins_with}
use Rattle.semver_ranges.specs.Steps.Reading.{after_simple, some_simples, all_simples, range_end, right_side, with_right}
use Rattle.semver_ranges.specs.Steps.Reading.{with_others, after_first, range, after_bars, onto, more_ranges, after_range}
use Rattle.semver_ranges.specs.Steps.Reading.{some_ranges, read}
use Rattle.semver_texts.proofs.Lists.{by_test}

-- if something is found, the rest after it has at most n bytes
abbrev Leaves : {X : Type 0} → ℕ → Option (X × Text) → Type 0
Leaves n None = Unit {0}
Leaves n (Some found) = length found.1 ≤ n

pub back_shorter : (p : ℕ → Bool) (t : Text) → length (back p t) ≤ length t
back_shorter p t = omega (arith, simp length-append at (ap length (front-back p t)))

some_bytes : (p : ℕ → Bool) (t : Text) → starts p t ≡ true → 0 < length t
some_bytes p [] e = cc
some_bytes p (b ∷ t) e = omega arith

no_simple : (d : Grammar) → simple d [] ≡ None
no_simple Crate = refl
no_simple Cargo = refl
no_simple Npm = refl

pub shorter_bars : (t u : Text) → after_bars t ≡ Some u → length u < length t
shorter_bars [] u e = cc
shorter_bars (b ∷ []) u e = cc
shorter_bars (b ∷ c ∷ t) u e = grind arith

-- the rest u has at most n bytes, and a range ends at its beginning; below, for the rest after
-- something that is found
record Stopped (n : ℕ) (u : Text) : Type 0 where
  short : length u ≤ n
  ends : ends_range u ≡ true

abbrev Stops : {X : Type 0} → ℕ → Option (X × Text) → Type 0
Stops n None = Unit {0}
Stops n (Some found) = Stopped n found.1

module _ (d : Grammar) where
  partial_leaves : (role : Role) (n : ℕ) (t : Text) → length t ≤ n → Leaves n (partial d role t)
  partial_leaves role n t h = left (partial d role t) (partial_sound d role t) where
    left : (o : Option (PartialTree × Text)) → WordAt d role t o → Leaves n o
    left None k = tt
    left (Some found) (w, spelled, text, ends) = omega (arith, simp length-append at (ap length text))

  simple_leaves : (n : ℕ) (t : Text) → length t ≤ suc n → Leaves n (simple d t)
  simple_leaves n t h = left (simple d t) (simple_sound d t) where
    left : (o : Option (Simple × Text)) → SimpleAt d t o → Leaves n o
    left None k = tt
    left (Some found) (w, gap, (sign, text, operator, spelled, whole), gapped, e) =
        let some = some_bytes is_word_byte text (word_starts d (after_operator found.0.operator) found.0.partial text spelled) in
        omega (arith, simp length-append at (ap length e), simp length-append at (ap length whole))

  pub shorter_simple : (t u : Text) (s : Simple) → simple d t ≡ Some (s, u) → length u < length t
  shorter_simple [] u s e = cc (no_simple d)
  shorter_simple (b ∷ t) u s e =
      let h = rw e at (simple_leaves (length t) (b ∷ t) (omega arith)) in omega arith

  form_shorter : (t : Text) (found : Operator × Text) → FormAt d t found → length found.1 ≤ length t
  form_shorter t found (w, spelled, text) = omega (arith, simp length-append at (ap length text))

  pub operator_shorter : (t : Text) → length (operator_at d t).1 ≤ length t
  operator_shorter t = form_shorter t (operator_at d t) (operator_sound d t)

  put_stops : (n : ℕ) (s : Simple) (o : Option (List Simple × Text)) → Stops n o → Stops n (put_before s o)
  put_stops n s None h = tt
  put_stops n s (Some found) h = h

  after_simple_stops : (n : ℕ) (f : Text → Option (List Simple × Text)) → ((t : Text) → length t ≤ n → Stops n (f t))
      → (o : Option (Simple × Text)) → Leaves n o → Stops n (after_simple f o)
  after_simple_stops n f h None l = tt
  after_simple_stops n f h (Some found) l = put_stops n found.0 _ (h found.1 l)

  some_simples_stop : (k n : ℕ) (t : Text) → length t ≤ n → Stops n (some_simples d k t)
  some_simples_stop zero n t h = tt
  some_simples_stop (suc k) n t h = by_test (ends_range t)
      (λ e. rw e (record { short = h; ends = e }))
      (λ e. rw e (after_simple_stops n _ (some_simples_stop k n) _ (simple_leaves n t (omega arith))))

  -- the rest after the right side of a hyphen range, and after a range
  range_end_stops : (n : ℕ) (o : Option (PartialTree × Text)) → Leaves n o → Stops n (range_end d o)
  range_end_stops n None h = tt
  range_end_stops n (Some found) h = let k = back_shorter (is_blank d) found.1 in grind arith

  right_side_stops : (n : ℕ) (t : Text) → length t ≤ n → Stops n (right_side d t)
  right_side_stops n [] h = tt
  right_side_stops n (dash ∷ []) h = tt
  right_side_stops n (dash ∷ blank ∷ t) h = let k = back_shorter (is_blank d) t in
      grind (
        arith,
        range_end_stops n (partial d after_hyphen (after_blanks d t))
            (partial_leaves after_hyphen n (after_blanks d t) (omega arith)),
      )

  right_stops : (n : ℕ) (s : Simple) (o : Option (PartialTree × Text)) → Stops n o → Stops n (with_right s o)
  right_stops n s None h = tt
  right_stops n s (Some found) h = grind arith

  right_stopped : (s : Simple) (t u : Text) (r : RangeTree) → with_right s (right_side d t) ≡ Some (r, u) → Stopped (length t) u
  right_stopped s t u r e = rw e at (right_stops _ s _ (right_side_stops (length t) t (omega arith)))

  pub shorter_right : (s : Simple) (t u : Text) (r : RangeTree) → with_right s (right_side d t) ≡ Some (r, u) → length u ≤ length t
  shorter_right s t u r e = (right_stopped s t u r e).short

  pub right_ends : (s : Simple) (t u : Text) (r : RangeTree) → with_right s (right_side d t) ≡ Some (r, u) → ends_range u ≡ true
  right_ends s t u r e = (right_stopped s t u r e).ends

  others_stop : (n : ℕ) (s : Simple) (o : Option (List Simple × Text)) → Stops n o → Stops n (with_others s o)
  others_stop n s None h = tt
  others_stop n s (Some found) h = h

  first_stops : (n : ℕ) (o : Option (Simple × Text)) → Leaves n o → Stops n (after_first d o)
  first_stops n None h = tt
  first_stops n (Some found) h = by_test (begins_with 45 found.1)
      (λ e. rw e (right_stops n found.0 _ (right_side_stops n found.1 h)))
      (λ e. rw e (others_stop n found.0 _ (some_simples_stop (suc (length found.1)) n found.1 h)))

  range_leaves : (t : Text) → Leaves (length t) (range d t)
  range_leaves t = let k = back_shorter (is_blank d) t in by_test (ends_range (after_blanks d t))
      (λ e. rw e k)
      (λ e. rw e (leaves (after_first d (simple d (after_blanks d t)))
      (first_stops _ _ (simple_leaves (length t) (after_blanks d t) (omega arith)))))
    where
      leaves : (o : Option (RangeTree × Text)) → Stops (length t) o → Leaves (length t) o
      leaves None h = tt
      leaves (Some found) h = h.short

  -- if two readers of the other terms agree on texts shorter than t, they agree after the first
  -- term of t
  agree_simples : (f g : Text → Option (List Simple × Text)) (t : Text) → ((u : Text) → length u < length t → f u ≡ g u)
      → (o : Option (Simple × Text)) → simple d t ≡ o → after_simple f o ≡ after_simple g o
  agree_simples f g t h None e = refl
  agree_simples f g t h (Some (s, u)) e = ap (put_before s) (h u (shorter_simple t u s e))

  -- the limit on the depth doesn't matter if it is above the length of the text
  enough_simples : (n m : ℕ) (t : Text) → length t < n → length t < m → some_simples d n t ≡ some_simples d m t
  enough_simples zero m t h k = absurd (omega arith)
  enough_simples (suc n) zero t h k = absurd (omega arith)
  enough_simples (suc n) (suc m) t h k =
      rw (agree_simples _ _ t (λ u l. enough_simples n m u (omega arith) (omega arith)) (simple d t) refl)

  pub simples_end : (t : Text) → ends_range t ≡ true → all_simples d t ≡ Some ([], t)
  simples_end t e = rw e

  pub simples_step : (t : Text) → ends_range t ≡ false → all_simples d t ≡ after_simple (all_simples d) (simple d t)
  simples_step t e = rw e (agree_simples _ (all_simples d) t (λ u l. enough_simples (length t) (suc (length u)) u l (omega arith)) _ refl)

  -- if two readers of the other ranges agree on texts of fewer than n bytes, they agree after a
  -- range that leaves at most n
  agree_after : (f g : Text → Option SetTree) (n : ℕ) → ((t : Text) → length t < n → f t ≡ g t) → (o : Option (RangeTree × Text))
      → Leaves n o → after_range f o ≡ after_range g o
  agree_after f g n h None l = refl
  agree_after f g n h (Some (r, [])) l = refl
  agree_after f g n h (Some (r, b ∷ t)) l = same _ refl where
    same : (o : Option Text) → after_bars (b ∷ t) ≡ o → more_ranges f r o ≡ more_ranges g r o
    same None e = refl
    same (Some u) e = let k = shorter_bars (b ∷ t) u e in ap (onto r) (h u (omega arith))

  enough_ranges : (n m : ℕ) (t : Text) → length t < n → length t < m → some_ranges d n t ≡ some_ranges d m t
  enough_ranges zero m t h k = absurd (omega arith)
  enough_ranges (suc n) zero t h k = absurd (omega arith)
  enough_ranges (suc n) (suc m) t h k =
      agree_after _ _ (length t) (λ u l. enough_ranges n m u (omega arith) (omega arith)) _ (range_leaves t)

  pub read_step : (t : Text) → read d t ≡ after_range (read d) (range d t)
  read_step t = agree_after _ (read d) (length t) (λ u l. enough_ranges (length t) (suc (length u)) u l (omega arith)) _ (range_leaves t)

-- Lines, pieces and the end of a text have only one outcome each.
use Rattle.std.proofs.Common.{◌≡◌, ◌∙◌, ◌++◌, ◌∷◌, ◌&&◌, ◌||◌, [], List, ℕ, Bool, true, false, refl, sym, ap, ap₂, subst}
use Rattle.std.proofs.Common.{Result, Ok, Err, IfOk, IfErr, take}
use Rattle.std.specs.Cmp.{IsTotalOrder}
use Rattle.semver_texts.specs.Precedence.{precedence}
use Rattle.semver_texts.specs.Texts.{Text, is_empty}
use Rattle.release_filter.specs.Counting.{CountsValue, counted}
use Rattle.release_filter.specs.LineTexts.{AreCut, end_byte, longest_front, marked_off}
use Rattle.release_filter.specs.Pieces.{Completes, Ends, Finishes, FoldValue, Folds, LinesValue, Stops, StopsIn, Takes, TakesLines}
use Rattle.release_filter.specs.Pieces.{begun_text, closes_last, concluded, last_lines}
use Rattle.release_filter.specs.Selections.{Answers, Holds, Writes, emptied, selected_of}
use Rattle.release_filter.specs.Verdicts.{AreVerdictsOn, IsVerdictOn, LineRule, Verdict, has_invalid, invalid, is_invalid}
use Rattle.release_filter.specs.declared.lines.LinesError.{LinesError}
use Rattle.release_filter.specs.declared.lines.LinesError.TheVariants.{NoVersion}
use Rattle.release_filter.proofs.Cuts.{one_cut}
use Rattle.release_filter.proofs.Holding.{one_holding}
use Rattle.release_filter.proofs.Matching.{not_both}
use Rattle.release_filter.proofs.Sorting.{one_answer, one_written}
use Rattle.release_filter.proofs.Verdicts.{OneVersion, one_verdict, one_verdicts, verdicts_split}

-- ---- the first invalid line

bad_first : (front : Text) (v : Verdict) (vs : List Verdict) → v ≡ invalid front → has_invalid (v ∷ vs) ≡ false → ⊥
bad_first front v vs is valid = cc (ap (λ (w : Verdict). has_invalid (w ∷ vs)) is)

-- two lists of verdicts on prefixes of the same lines are equal, if each ends with the first invalid
-- line
pub one_first : OneVersion → (rule : LineRule) (xs others ys rest : List Text) → xs ++ others ≡ ys ++ rest
    → (before after : List Verdict) (front end : Text) → AreVerdictsOn rule xs (before ++ invalid front ∷ [])
    → AreVerdictsOn rule ys (after ++ invalid end ∷ []) → has_invalid before ≡ false → has_invalid after ≡ false
    → before ++ invalid front ∷ [] ≡ after ++ invalid end ∷ []
one_first same rule [] others ys rest e [] after front end p q a b = absurd p
one_first same rule [] others ys rest e (v ∷ vs) after front end p q a b = absurd p
one_first same rule (x ∷ xs) others [] rest e before [] front end p q a b = absurd q
one_first same rule (x ∷ xs) others [] rest e before (w ∷ ws) front end p q a b = absurd q
one_first same rule (x ∷ xs) others (y ∷ ys) rest e [] [] front end p q a b =
    let first : x ≡ y = cc in
    ap (λ v. v ∷ []) (one_verdict same rule x (invalid front) (invalid end) p.0 (subst (λ l. IsVerdictOn rule l (invalid end))
    (sym first) q.0))
one_first same rule (x ∷ xs) others (y ∷ ys) rest e [] (w ∷ ws) front end p q a b =
    let first : x ≡ y = cc in
    absurd (bad_first front w ws (one_verdict same rule y w (invalid front) q.0 (subst (λ l. IsVerdictOn rule l
    (invalid front)) first p.0)) b)
one_first same rule (x ∷ xs) others (y ∷ ys) rest e (v ∷ vs) [] front end p q a b =
    let first : x ≡ y = cc in
    absurd (bad_first end v vs (one_verdict same rule x v (invalid end) p.0 (subst (λ l. IsVerdictOn rule l (invalid end))
    (sym first) q.0)) a)
one_first same rule (x ∷ xs) others (y ∷ ys) rest e (v ∷ vs) (w ∷ ws) front end p q a b =
    let first : x ≡ y = cc in
    let is = one_verdict same rule x v w p.0 (subst (λ l. IsVerdictOn rule l w) (sym first) q.0) in
    ap₂ (λ u us. u ∷ us) is
    (one_first same rule xs others ys rest (cc) vs ws front end p.1 q.1 (later v vs a) (later w ws b))
  where
    later : (v : Verdict) (vs : List Verdict) → has_invalid (v ∷ vs) ≡ false → has_invalid vs ≡ false
    later v vs e = by_first (is_invalid v) e
      where
        by_first : (is : Bool) → (is || has_invalid vs) ≡ false → has_invalid vs ≡ false
        by_first true e = cc
        by_first false e = e

or_true : (a b : Bool) → b ≡ true → (a || b) ≡ true
or_true true b e = refl
or_true false b e = e

has_last : (before more : List Verdict) (front : Text) → has_invalid ((before ++ invalid front ∷ []) ++ more) ≡ true
has_last [] more front = refl
has_last (v ∷ vs) more front = or_true (is_invalid v) _ (has_last vs more front)

-- ---- lines

module _ (same : OneVersion) (total : IsTotalOrder precedence) (f : FoldValue) where
  one_fold : (xs ys : List Text) (g h : FoldValue) (vs ws : List Verdict) (old new other : Text) → Folds f xs vs g old new
      → Folds f ys ws h old other → vs ≡ ws → (g ≡ h) × (new ≡ other)
  one_fold xs ys g h vs ws old new other a b is =
      let held = one_holding total f.held g.held h.held (selected_of vs) a.added b.added a.holds
      (subst (λ l. Holds f.held (selected_of l) h.held b.added) (sym is) b.holds) in (
        a.state ∙ (λ i. record f { held = held.0 i; counts = counted f.counts (is i) }) ∙ sym b.state,
        a.appended ∙ ap (λ l. old ++ l) held.1 ∙ sym b.appended,
      )

  pub one_taking : (lines : List Text) (g h : FoldValue) (old new other : Text) → TakesLines f lines g old new
      → TakesLines f lines h old other
      → (g ≡ h) × (new ≡ other)
  one_taking lines g h old new other a b =
      one_fold lines lines g h a.verdicts b.verdicts old new other a.folds b.folds
      (one_verdicts same f.rule lines a.verdicts b.verdicts a.folds.each b.folds.each)

  -- if two calls stop at an invalid line, its number, the counts and the output are the same
  pub one_stop : (lines : List Text) (c d : CountsValue) (old new other : Text) (n m : ℕ) → Stops (NoVersion n) f lines c old new
      → Stops (NoVersion m) f lines d old other → (n ≡ m) × (c ≡ d) × (new ≡ other)
  one_stop lines c d old new other n m a b =
      let first = one_first same f.rule a.taken a.others b.taken b.others (sym a.parts ∙ b.parts) a.why.1 b.why.1 a.why.2 b.why.2
      (subst (AreVerdictsOn f.rule a.taken) a.why.3 a.folds.each) (subst (AreVerdictsOn f.rule b.taken) b.why.3 b.folds.each)
      a.why.4 b.why.4 in
      let one = one_fold a.taken b.taken a.left b.left a.verdicts b.verdicts old new other a.folds b.folds (a.why.3 ∙ first
      ∙ sym b.why.3) in
      let counts = a.counts_left ∙ ap (λ (v : FoldValue). v.counts) one.0 ∙ sym b.counts_left in
      (a.why.5 ∙ ap (λ (v : CountsValue). v.lines) counts ∙ sym b.why.5, counts, one.1)

  -- if one call takes all lines, no other stops at an invalid line
  pub no_stop : (lines : List Text) (g : FoldValue) (c : CountsValue) (old new before other : Text) (n : ℕ) → TakesLines f lines g old new
      → Stops (NoVersion n) f lines c before other → ⊥
  no_stop lines g c old new before other n a b =
      let parts = verdicts_split f.rule b.taken b.others a.verdicts (subst (λ l. AreVerdictsOn f.rule l a.verdicts) b.parts a.folds.each) in
      let first = one_verdicts same f.rule b.taken parts.0 b.verdicts parts.3 b.folds.each ∙ b.why.3 in
      not_both (ap has_invalid (parts.2 ∙ ap (λ l. l ++ parts.1) first) ∙ has_last b.why.1 parts.1 b.why.2) (a.valid b.why.0)

-- ---- pieces, and the end of a text

module _ (same : OneVersion) (total : IsTotalOrder precedence) (s : LinesValue) where
  -- a piece is cut in only one way
  same_cut : (xs ys : List Text) (a b piece : Text) → AreCut (end_byte s.fold.rule.ending) (s.begun ++ piece) xs a
      → AreCut (end_byte s.fold.rule.ending) (s.begun ++ piece) ys b → (xs ≡ ys) × (a ≡ b)
  same_cut xs ys a b piece p q = one_cut (end_byte s.fold.rule.ending) (s.begun ++ piece) xs ys a b p q

  pub one_piece : (t u : LinesValue) (piece old new other : Text) → Takes s piece t old new → Takes s piece u old other
      → (t ≡ u) × (new ≡ other)
  one_piece t u piece old new other a b =
      let cut = same_cut a.lines b.lines a.unended b.unended piece a.cut b.cut in
      let there = subst (λ l. TakesLines s.fold (marked_off s.at_front l) u.fold old other) (sym cut.0) b.takes in
      let one = one_taking same total s.fold (marked_off s.at_front a.lines) t.fold u.fold old new other a.takes there in (
        a.state
            ∙ (λ i. record {
              fold = one.0 i;
              at_front = s.at_front && is_empty (cut.0 i);
              begun = take longest_front (cut.1 i);
            })
            ∙ sym b.state,
        one.1,
      )

  pub one_piece_stop : (c d : CountsValue) (piece old new other : Text) (n m : ℕ) → StopsIn (NoVersion n) s piece c old new
      → StopsIn (NoVersion m) s piece d old other → (n ≡ m) × (c ≡ d) × (new ≡ other)
  one_piece_stop c d piece old new other n m a b =
      let cut = same_cut a.lines b.lines a.unended b.unended piece a.cut b.cut in
      one_stop same total s.fold (marked_off s.at_front a.lines) c d old new other n m a.stops
      (subst (λ l. Stops (NoVersion m) s.fold (marked_off s.at_front l) d old other) (sym cut.0) b.stops)

  pub no_piece_stop : (t : LinesValue) (c : CountsValue) (piece old new before other : Text) (n : ℕ) → Takes s piece t old new
      → StopsIn (NoVersion n) s piece c before other → ⊥
  no_piece_stop t c piece old new before other n a b =
      let cut = same_cut a.lines b.lines a.unended b.unended piece a.cut b.cut in
      no_stop same total s.fold (marked_off s.at_front a.lines) t.fold c old new before other n a.takes
      (subst (λ l. Stops (NoVersion n) s.fold (marked_off s.at_front l) c before other) (sym cut.0) b.stops)

  pub one_end : (closes : Bool) (t u : LinesValue) (old new other : Text) → Ends closes s t old new → Ends closes s u old other
      → (t ≡ u) × (new ≡ other)
  one_end closes t u old new other a b =
      let one = one_taking same total s.fold (last_lines closes s) t.fold u.fold old new other a.takes b.takes in
      (a.state ∙ (λ i. record { fold = one.0 i; at_front = true; begun = [] }) ∙ sym b.state, one.1)

  pub one_finish : (t u : LinesValue) (old new other : Text) → Finishes s t old new → Finishes s u old other → (t ≡ u) × (new ≡ other)
  one_finish t u old new other a b =
      let one = one_end (closes_last s) a.last b.last old a.before b.before a.ends b.ends in
      let rest = one_answer total a.last.fold.held a.rest b.rest a.answers
      (subst (λ (v : LinesValue). Answers v.fold.held b.rest) (sym one.0) b.answers) in
      (a.state ∙ ap concluded one.0 ∙ sym b.state, a.appended ∙ ap₂ (λ l m. l ++ m) one.1 rest ∙ sym b.appended)

  pub one_completion : (t u : LinesValue) (text old new other : Text) → Completes s text t old new → Completes s text u old other
      → (t ≡ u) × (new ≡ other)
  one_completion t u text old new other a b =
      let is = one_verdicts same s.fold.rule _ a.verdicts b.verdicts a.each b.each in
      let wrote = one_written total s.fold.held.selection (selected_of a.verdicts) a.written b.written a.writes
      (subst (λ l. Writes s.fold.held.selection (selected_of l) b.written) (sym is) b.writes) in (
        a.state
            ∙ (λ i. record (begun_text s) {
              fold = record s.fold { held = emptied s.fold.held; counts = counted s.fold.counts (is i) };
            })
            ∙ sym b.state,
        a.appended ∙ ap (λ l. old ++ l) wrote ∙ sym b.appended,
      )

-- ---- the results of two calls

pub both_ok : {T U E F : Type 0} (r : Result T E) (q : Result U F) (A B C : Type 0) → (A → B → C) → IfOk r (λ _. A)
    → IfOk q (λ _. B) → IfOk r (λ _. IfOk q (λ _. C))
both_ok (Ok x) (Ok y) A B C f a b = f a b
both_ok (Ok x) (Err e) A B C f a b = tt
both_ok (Err e) q A B C f a b = tt

pub both_err : {T U E F : Type 0} (r : Result T E) (q : Result U F) (A : E → Type 0) (B : F → Type 0) (C : E → F → Type 0)
    → ((e : E) (f : F) → A e → B f → C e f) → IfErr r A → IfErr q B → IfErr r (λ e. IfErr q (C e))
both_err (Err e) (Err f) A B C both a b = both e f a b
both_err (Err e) (Ok y) A B C both a b = tt
both_err (Ok x) q A B C both a b = tt

pub ok_err : {T U E F : Type 0} (r : Result T E) (q : Result U F) (A : Type 0) (B C : F → Type 0) → ((f : F) → A → B f → C f)
    → IfOk r (λ _. A) → IfErr q B → IfOk r (λ _. IfErr q C)
ok_err (Ok x) (Err f) A B C both a b = both f a b
ok_err (Ok x) (Ok y) A B C both a b = tt
ok_err (Err e) q A B C both a b = tt

module _ (same : OneVersion) (total : IsTotalOrder precedence) (s r : LinesValue) (states : s ≡ r) where
  seen : (P : LinesValue → Type 0) → P r → P s
  seen P p = subst P (sym states) p

  module _ (old before : Text) (bytes : old ≡ before) where
    from_first : (P : LinesValue → Text → Type 0) → P r before → P s old
    from_first P p = seen (λ (x : LinesValue). P x old) (subst (P r) (sym bytes) p)

    pub two_pieces : (t u : LinesValue) (piece new other : Text) → Takes s piece t old new → Takes r piece u before other
        → (t ≡ u) × (new ≡ other)
    two_pieces t u piece new other a b =
        one_piece same total s t u piece old new other a (from_first (λ (x : LinesValue) (l : Text). Takes x piece u l other) b)

    pub two_piece_stops : (e f : LinesError) (c d : CountsValue) (piece new other : Text) (n m : ℕ) → StopsIn e s piece c old new
        → StopsIn f r piece d before other → e ≡ NoVersion n → f ≡ NoVersion m → (n ≡ m) × (c ≡ d) × (new ≡ other)
    two_piece_stops e f c d piece new other n m a b is so =
        one_piece_stop same total s c d piece old new other n m (subst (λ x. StopsIn x s piece c old new) is a)
        (subst (λ x. StopsIn x s piece d old other) so (from_first (λ (x : LinesValue) (l : Text). StopsIn f x piece d l other) b))

    pub two_ends : (closes : Bool) (t u : LinesValue) (new other : Text) → Ends closes s t old new → Ends closes r u before other
        → (t ≡ u) × (new ≡ other)
    two_ends closes t u new other a b =
        one_end same total s closes t u old new other a (from_first (λ (x : LinesValue) (l : Text). Ends closes x u l other) b)

    pub two_finishes : (t u : LinesValue) (new other : Text) → Finishes s t old new → Finishes r u before other → (t ≡ u) × (new ≡ other)
    two_finishes t u new other a b =
        one_finish same total s t u old new other a (from_first (λ (x : LinesValue) (l : Text). Finishes x u l other) b)

    pub two_stops : (lines : LinesValue → List Text) (e f : LinesError) (c d : CountsValue) (new other : Text) (n m : ℕ)
        → Stops e s.fold (lines s) c old new → Stops f r.fold (lines r) d before other → e ≡ NoVersion n → f ≡ NoVersion m
        → (n ≡ m) × (c ≡ d) × (new ≡ other)
    two_stops lines e f c d new other n m a b is so =
        one_stop same total s.fold (lines s) c d old new other n m (subst (λ x. Stops x s.fold (lines s) c old new) is a)
        (subst (λ x. Stops x s.fold (lines s) d old other) so
        (from_first (λ (x : LinesValue) (l : Text). Stops f x.fold (lines x) d l other) b))

  pub piece_or_stop : (t : LinesValue) (c : CountsValue) (piece old new before other : Text) (f : LinesError) (n : ℕ)
      → Takes s piece t old new
      → StopsIn f r piece c before other → ¬ (f ≡ NoVersion n)
  piece_or_stop t c piece old new before other f n a b so =
      no_piece_stop same total s t c piece old new before other n a
      (subst (λ x. StopsIn x s piece c before other) so (seen (λ (x : LinesValue). StopsIn f x piece c before other) b))

  pub lines_or_stop : (lines : LinesValue → List Text) (g : FoldValue) (c : CountsValue) (old new before other : Text)
      (f : LinesError) (n : ℕ)
      → TakesLines s.fold (lines s) g old new → Stops f r.fold (lines r) c before other → ¬ (f ≡ NoVersion n)
  lines_or_stop lines g c old new before other f n a b so =
      no_stop same total s.fold (lines s) g c old new before other n a
      (subst (λ x. Stops x s.fold (lines s) c before other) so (seen (λ (x : LinesValue). Stops f x.fold (lines x) c before other) b))

-- The effects of taking no lines, one line and more lines, also up to an error.
use Rattle.std.proofs.Common.{◌≡◌, ◌∙◌, ◌++◌, ◌∷◌, ◌||◌, [], List, Bool, true, false, not, refl, sym, ap, subst}
use Rattle.std.proofs.Common.{append_assoc, append-nil, length}
use Rattle.std.proofs.lemmas.List.Folds.{list_any-append}
use Rattle.std.specs.Cmp.{IsTotalOrder}
use Rattle.std.specs.Prelude.{IsTrue}
use Rattle.semver_texts.specs.Precedence.{precedence}
use Rattle.semver_texts.specs.Texts.{Text}
use Rattle.release_filter.specs.Counting.{CountsValue, counted, counted_as}
use Rattle.release_filter.specs.Pieces.{FoldValue, Folds, Stops, StopsBy, TakesLines}
use Rattle.release_filter.specs.Verdicts.{AreVerdictsOn, IsVerdictOn, LineRule, Verdict, has_invalid, is_invalid}
use Rattle.release_filter.specs.Verdicts.{kept, dropped, empty, invalid}
use Rattle.release_filter.specs.Selections.{HeldValue, Holds, HoldsBy, IsFew, selected_as, selected_of}
use Rattle.release_filter.specs.declared.selection.Selection.{Selection}
use Rattle.release_filter.specs.declared.selection.Selection.TheVariants.{Each, Highest, Lowest, Sorted, Reversed}
use Rattle.release_filter.specs.declared.lines.LinesError.{LinesError}
use Rattle.release_filter.specs.declared.lines.LinesError.TheVariants.{OutOfMemory, NoVersion}
use Rattle.release_filter.proofs.Holding.{holds_more, holds_none, kept_append}
use Rattle.release_filter.proofs.Verdicts.{verdicts_append}

pub counted_append : (c : CountsValue) (vs ws : List Verdict) → counted c (vs ++ ws) ≡ counted (counted c vs) ws
counted_append c [] ws = refl
counted_append c (v ∷ vs) ws = counted_append (counted_as v c) vs ws

pub valid_append : (vs ws : List Verdict) → has_invalid vs ≡ false → has_invalid ws ≡ false → has_invalid (vs ++ ws) ≡ false
valid_append vs ws p q = list_any-append (λ (v : Verdict). is_invalid v) vs ws ∙ cc

-- no more lines are held than the selection allows
abbrev pub HeldFew : FoldValue → Type 0
HeldFew f = IsFew f.held.selection (length f.held.lines)

pub folds_none : (f : FoldValue) (old : Text) → HeldFew f → Folds f [] [] f old old
folds_none f old few = record {
  each = tt;
  added = [];
  holds = holds_none f.held few;
  appended = sym (append-nil old);
  state = refl;
}

pub takes_none : (f : FoldValue) (old : Text) → HeldFew f → TakesLines f [] f old old
takes_none f old few = record { verdicts = []; folds = folds_none f old few; valid = λ strict. refl }

-- ---- one line

-- nothing is appended if no line is kept
none_added : (w : Selection) (h g : HeldValue) (added : Text) → HoldsBy w h [] g added → added ≡ []
none_added Each h g added p = p.1
none_added Highest h g added p = p.2
none_added Lowest h g added p = p.2
none_added Sorted h g added p = p.1
none_added Reversed h g added p = p.1

none_kept : (v : Verdict) → is_invalid v ≡ true → selected_as v ≡ []
none_kept (kept version given) e = cc
none_kept dropped e = refl
none_kept empty e = refl
none_kept (invalid front) e = refl

bad_verdict : (v : Verdict) → is_invalid v ≡ true → (front : Text) × (v ≡ invalid front)
bad_verdict (kept version given) e = cc
bad_verdict dropped e = cc
bad_verdict empty e = cc
bad_verdict (invalid front) e = (front, refl)

or_false : (b : Bool) → (b || false) ≡ b
or_false true = refl
or_false false = refl

module _ (f : FoldValue) (line : Text) (v : Verdict) (h : HeldValue) (old new : Text)
    (held : (added : Text) × Holds f.held (selected_as v) h added × (new ≡ old ++ added)) where
  -- an invalid line appends nothing
  pub same_kept : is_invalid v ≡ true → new ≡ old
  same_kept bad =
      let none = none_added f.held.selection f.held h held.0 (subst (λ l. Holds f.held l h held.0) (none_kept v bad) held.1) in
      held.2 ∙ ap (λ l. old ++ l) none ∙ append-nil old

  module _ (is : IsVerdictOn f.rule line v) (c : CountsValue) (counts : c ≡ counted_as v f.counts) where
    abbrev after : FoldValue
    after = record f { held = h; counts = c }

    one_folded : Folds f (line ∷ []) (v ∷ []) after old new
    one_folded = record {
      each = (is, tt);
      added = held.0;
      holds = subst (λ l. Holds f.held l h held.0) (sym (append-nil (selected_as v))) held.1;
      appended = held.2;
      state = λ i. record f { held = h; counts = counts i };
    }

    pub took_one : (IsTrue f.is_strict → is_invalid v ≡ false) → TakesLines f (line ∷ []) after old new
    took_one valid = record {
      verdicts = v ∷ [];
      folds = one_folded;
      valid = λ strict. or_false (is_invalid v) ∙ valid strict;
    }

    pub stopped_one : IsTrue f.is_strict → is_invalid v ≡ true → Stops (NoVersion c.lines) f (line ∷ []) c old new
    stopped_one strict bad =
        let front = bad_verdict v bad in record {
          taken = line ∷ [];
          others = [];
          parts = refl;
          verdicts = v ∷ [];
          left = after;
          folds = one_folded;
          counts_left = refl;
          why = (strict, [], front.0, ap (λ w. w ∷ []) front.1, refl, refl);
        }

-- the value of a test, from its opposite
pub is_valid : (valid bad : Bool) → valid ≡ not bad → valid ≡ true → bad ≡ false
is_valid valid true is e = cc
is_valid valid false is e = refl

pub is_bad : (valid bad : Bool) → valid ≡ not bad → valid ≡ false → bad ≡ true
is_bad valid true is e = refl
is_bad valid false is e = cc

-- ---- an error

-- an allocation failed before any line was taken
pub stops_first : (f : FoldValue) (lines : List Text) (c : CountsValue) (old new : Text) → HeldFew f → c ≡ f.counts → new ≡ old
    → Stops OutOfMemory f lines c old new
stops_first f lines c old new few same none = record {
  taken = [];
  others = lines;
  parts = refl;
  verdicts = [];
  left = f;
  folds = subst (λ l. Folds f [] [] f old l) (sym none) (folds_none f old few);
  counts_left = same;
  why = λ strict. refl;
}

-- an allocation failed after all lines were taken
pub stops_last : (f g : FoldValue) (lines : List Text) (c : CountsValue) (old mid new : Text) → TakesLines f lines g old mid → c ≡ g.counts
    → new ≡ mid → Stops OutOfMemory f lines c old new
stops_last f g lines c old mid new a same is = record {
  taken = lines;
  others = [];
  parts = sym (append-nil lines);
  verdicts = a.verdicts;
  left = g;
  folds = subst (Folds f lines a.verdicts g old) (sym is) a.folds;
  counts_left = same;
  why = a.valid;
}

-- an error at some lines is also one at these and more lines after them
pub stops_before : (e : LinesError) (f : FoldValue) (lines more : List Text) (c : CountsValue) (old new : Text) → Stops e f lines c old new
    → Stops e f (lines ++ more) c old new
stops_before e f lines more c old new a = record {
  taken = a.taken;
  others = a.others ++ more;
  parts = ap (λ l. l ++ more) a.parts ∙ append_assoc a.taken a.others more;
  verdicts = a.verdicts;
  left = a.left;
  folds = a.folds;
  counts_left = a.counts_left;
  why = a.why;
}

module _ (total : IsTotalOrder precedence) where
  pub folds_more : (f g h : FoldValue) (xs ys : List Text) (vs ws : List Verdict) (old mid new : Text) → Folds f xs vs g old mid
      → Folds g ys ws h mid new → Folds f (xs ++ ys) (vs ++ ws) h old new
  folds_more f g h xs ys vs ws old mid new a b =
      let rule = ap (λ (v : FoldValue). v.rule) a.state in record {
        each = verdicts_append f.rule xs ys vs ws a.each (subst (λ (r : LineRule). AreVerdictsOn r ys ws) rule b.each);
        added = a.added ++ b.added;
        holds = subst (λ l. Holds f.held l h.held (a.added ++ b.added)) (sym (kept_append vs ws))
            (holds_more total f.held g.held h.held (selected_of vs) (selected_of ws) a.added b.added a.holds b.holds);
        appended = b.appended ∙ ap (λ l. l ++ b.added) a.appended ∙ append_assoc old a.added b.added;
        state = b.state
            ∙ ap (λ (v : FoldValue). record v { held = h.held; counts = counted v.counts ws }) a.state
            ∙ (λ i. record f { held = h.held; counts = sym (counted_append f.counts vs ws) i });
      }

  pub takes_more : (f g h : FoldValue) (xs ys : List Text) (old mid new : Text) → TakesLines f xs g old mid → TakesLines g ys h mid new
      → TakesLines f (xs ++ ys) h old new
  takes_more f g h xs ys old mid new a b = record {
    verdicts = a.verdicts ++ b.verdicts;
    folds = folds_more f g h xs ys a.verdicts b.verdicts old mid new a.folds b.folds;
    valid = λ strict. valid_append a.verdicts b.verdicts (a.valid strict)
        (b.valid (subst IsTrue (sym (ap (λ (v : FoldValue). v.is_strict) a.folds.state)) strict));
  }

  -- the reason for an error is the same if valid lines were taken before
  why_more : (e : LinesError) (f g : FoldValue) (vs ws : List Verdict) (c : CountsValue) → g.is_strict ≡ f.is_strict
      → (IsTrue f.is_strict → has_invalid vs ≡ false) → StopsBy e g ws c → StopsBy e f (vs ++ ws) c
  why_more OutOfMemory f g vs ws c same valid why = λ strict.
      valid_append vs ws (valid strict) (why (subst IsTrue (sym same) strict))
  why_more (NoVersion n) f g vs ws c same valid why =
      let strict = subst IsTrue same why.0 in (
        strict,
        vs ++ why.1,
        why.2,
        ap (λ l. vs ++ l) why.3 ∙ sym (append_assoc vs why.1 _),
        valid_append vs why.1 (valid strict) why.4,
        why.5,
      )

  pub stops_more : (e : LinesError) (f g : FoldValue) (xs ys : List Text) (c : CountsValue) (old mid new : Text) → TakesLines f xs g old mid
      → Stops e g ys c mid new → Stops e f (xs ++ ys) c old new
  stops_more e f g xs ys c old mid new a b = record {
    taken = xs ++ b.taken;
    others = b.others;
    parts = ap (λ l. xs ++ l) b.parts ∙ sym (append_assoc xs b.taken b.others);
    verdicts = a.verdicts ++ b.verdicts;
    left = b.left;
    folds = folds_more f g b.left xs b.taken a.verdicts b.verdicts old mid new a.folds b.folds;
    counts_left = b.counts_left;
    why = why_more e f g a.verdicts b.verdicts c (ap (λ (v : FoldValue). v.is_strict) a.folds.state) a.valid b.why;
  }

  -- an error at one line is an error at all lines, after the lines before it were taken
  pub stops_next : (e : LinesError) (f g : FoldValue) (lines done : List Text) (line : Text) (more : List Text) (c : CountsValue)
      (old mid new : Text) → lines ≡ done ++ line ∷ more → TakesLines f done g old mid → Stops e g (line ∷ []) c mid new
      → Stops e f lines c old new
  stops_next e f g lines done line more c old mid new is a b =
      subst (λ l. Stops e f l c old new) (append_assoc done (line ∷ []) more ∙ sym is)
      (stops_before e f (done ++ line ∷ []) more c old new (stops_more e f g done (line ∷ []) c old mid new a b))

-- The effects of a piece of a text, and of pieces one after another.
use Rattle.std.proofs.Common.{◌≡◌, ◌≢◌, ◌∙◌, ◌++◌, ◌∷◌, ◌⊎◌, ◌==◌, ◌&&◌, [], List, ℕ, Bool, true, false, refl, sym, ap, ap₂, subst, inl}
use Rattle.std.proofs.Common.{inr, arith}
use Rattle.std.proofs.Common.{append_assoc, append-nil, length, length-take, map, take}
use Rattle.std.proofs.Common.{Result, Ok, Err, IfOk, IfErr}
use Rattle.std.proofs.lemmas.Grind.{common_steps}
use Rattle.std.proofs.lemmas.List.{map-append}
use Rattle.std.proofs.lemmas.List.Elements.{All-append, All-take}
use Rattle.std.specs.Cmp.{IsTotalOrder}
use Rattle.std.specs.List.{AllByRecursion, concat}
use Rattle.semver_texts.specs.Precedence.{precedence}
use Rattle.semver_texts.specs.Texts.{Text, is_empty}
use Rattle.release_filter.specs.Counting.{CountsValue}
use Rattle.release_filter.specs.LineTexts.{AreCut, IsWholeLine, after_mark, end_byte, ended, lines_in, lines_of, longest_front, marked_off}
use Rattle.release_filter.specs.LineTexts.{without_mark}
use Rattle.release_filter.specs.Pieces.{Completes, Ends, Finishes, FoldValue, LinesValue, Stops, StopsIn, Takes, TakesLines, TakesPieces}
use Rattle.release_filter.specs.Pieces.{begun_text, closes_last, last_lines}
use Rattle.release_filter.specs.Selections.{emptied, in_order, is_sorted, selected_of, text_of}
use Rattle.release_filter.specs.Steps.Taking.{EndsLine, IsBegun, IsCut, closing, some_line}
use Rattle.release_filter.specs.Verdicts.{AreVerdictsOn, LineRule}
use Rattle.release_filter.specs.declared.line_texts.LineEnd.{LineEnd}
use Rattle.release_filter.specs.declared.lines.LinesError.{LinesError}
use Rattle.release_filter.specs.declared.lines.LinesError.TheVariants.{OutOfMemory}
use Rattle.release_filter.proofs.Alike.{Shows, continues, last_closed, shows_held, shows_last, stops_shown, takes_shown}
use Rattle.release_filter.proofs.Cuts.{NoEnd, concat_lines, cut_append, cut_none, each_whole, front_append, marked_lines}
use Rattle.release_filter.proofs.Cuts.{off_append, some_whole, whole_after, whole_marked}
use Rattle.release_filter.proofs.Folds.{HeldFew, stops_before, stops_first, stops_last, stops_more, takes_more, takes_none}
use Rattle.release_filter.proofs.Holding.{same_wanted}
use Rattle.release_filter.proofs.Matching.{not_both}
use Rattle.release_filter.proofs.Sorting.{written}

-- the byte that ends the lines of a state
abbrev pub end_in : LinesValue → ℕ
end_in s = end_byte s.fold.rule.ending

and_true : (b : Bool) → (b && true) ≡ b
and_true true = refl
and_true false = refl

and_false : (b : Bool) → (b && false) ≡ false
and_false true = refl
and_false false = refl

-- ---- a piece in which no line ends

module _ (s : LinesValue) (piece : Text) (few : HeldFew s.fold) (none : NoEnd (end_in s) s.begun) (more : NoEnd (end_in s) piece) where
  no_cut : AreCut (end_in s) (s.begun ++ piece) [] (s.begun ++ piece)
  no_cut = cut_none (end_in s) (s.begun ++ piece) (All-append (λ b. b ≢ end_in s) s.begun piece none more)

  pub took_none : (left old : Text) → left ≡ take longest_front (s.begun ++ piece) → Takes s piece (record s { begun = left }) old old
  took_none left old is = record {
    lines = [];
    unended = s.begun ++ piece;
    cut = no_cut;
    takes = takes_none s.fold old few;
    state = λ i. record s { at_front = sym (and_true s.at_front) i; begun = is i };
  }

  pub stopped_none : (c : CountsValue) (old new : Text) → c ≡ s.fold.counts → new ≡ old → StopsIn OutOfMemory s piece c old new
  stopped_none c old new same is = record {
    lines = [];
    unended = s.begun ++ piece;
    cut = no_cut;
    stops = stops_first s.fold [] c old new few same is;
  }

-- if no line ends in a piece, its last part is all of it
pub none_cut : (end : ℕ) (piece first whole begun : Text) → IsCut end piece first whole begun → first ≡ [] → piece ≡ begun
none_cut end piece first whole begun cut none = by_first cut.ends_first
  where
    by_first : ((first ≡ []) × (whole ≡ [])) ⊎ IsWholeLine end first → piece ≡ begun
    by_first (inl (is, more)) = cut.parts ∙ ap₂ (λ l m. l ++ (m ++ begun)) is more
    by_first (inr ends) = absurd (omega (arith, ends.0, ap length none))

pub some_cut_first : (end : ℕ) (piece first whole begun : Text) → IsCut end piece first whole begun → (length first == 0) ≡ false
    → IsWholeLine end first
some_cut_first end piece first whole begun cut some = by_first cut.ends_first
  where
    by_first : ((first ≡ []) × (whole ≡ [])) ⊎ IsWholeLine end first → IsWholeLine end first
    by_first (inl (is, more)) = absurd (not_both (ap (λ (l : Text). length l == 0) is) some)
    by_first (inr ends) = ends

pub pushed_none : (s t : LinesValue) (piece first whole begun old : Text) → HeldFew s.fold → NoEnd (end_in s) s.begun
    → IsCut (end_in s) piece first whole begun → first ≡ [] → t ≡ record s { begun = take longest_front (s.begun ++ begun) }
    → Takes s piece t old old
pushed_none s t piece first whole begun old few none cut is so =
    let all = none_cut (end_in s) piece first whole begun cut is in
    subst (λ (v : LinesValue). Takes s piece v old old) (sym so)
    (took_none s piece few none (subst (NoEnd (end_in s)) (sym all) cut.no_end) _ old (ap (λ l. take longest_front (s.begun ++ l))
    (sym all)))

pub pushed_stop : (e : LinesError) (s t : LinesValue) (piece first whole begun old : Text) → HeldFew s.fold → NoEnd (end_in s) s.begun
    → IsCut (end_in s) piece first whole begun → first ≡ [] → t ≡ s → e ≡ OutOfMemory → StopsIn e s piece t.fold.counts old old
pushed_stop e s t piece first whole begun old few none cut is so out =
    let all = none_cut (end_in s) piece first whole begun cut is in
    subst (λ x. StopsIn x s piece t.fold.counts old old) (sym out)
    (stopped_none s piece few none (subst (NoEnd (end_in s)) (sym all) cut.no_end) t.fold.counts old old
    (ap (λ (v : LinesValue). v.fold.counts) so) refl)

-- ---- a piece in which lines end

module _ (s : LinesValue) (piece first whole begun : Text) (cut : IsCut (end_in s) piece first whole begun)
    (ends : IsWholeLine (end_in s) first) (none : NoEnd (end_in s) s.begun) where
  abbrev pub lines : List Text
  lines = (s.begun ++ first) ∷ lines_of (end_in s) whole

  abbrev pub first_line : Text
  first_line = after_mark s.at_front (s.begun ++ first)

  some_cut : AreCut (end_in s) (s.begun ++ piece) lines begun
  some_cut = record {
    each = (whole_after (end_in s) s.begun first none ends, each_whole (end_in s) whole cut.ends_whole);
    no_end = cut.no_end;
    whole = ap (λ l. s.begun ++ l) cut.parts ∙ sym (append_assoc s.begun first (whole ++ begun))
        ∙ ap (λ l. (s.begun ++ first) ++ (l ++ begun)) (sym (concat_lines (end_in s) whole))
        ∙ sym (append_assoc (s.begun ++ first) (concat (lines_of (end_in s) whole)) begun);
  }

  is_line : some_line first_line ≡ first_line ∷ []
  is_line = some_whole (end_in s) first_line (whole_marked s.fold.rule.ending s.at_front (s.begun ++ first) (whole_after
      (end_in s) s.begun first none ends))

  pub stopped_first : (e : LinesError) (c : CountsValue) (old new : Text) → Stops e s.fold (some_line first_line) c old new
      → StopsIn e s piece c old new
  stopped_first e c old new stops = record {
    lines = lines;
    unended = begun;
    cut = some_cut;
    stops = stops_before e s.fold (first_line ∷ []) (lines_of (end_in s) whole) c old new
        (subst (λ l. Stops e s.fold l c old new) is_line stops);
  }

  module _ (total : IsTotalOrder precedence) (m : LinesValue) (old mid : Text) (took : EndsLine s first m old mid) where
    took_first : TakesLines s.fold (first_line ∷ []) m.fold old mid
    took_first = subst (λ l. TakesLines s.fold l m.fold old mid) is_line took.takes

    same_end : lines_of (end_in m) whole ≡ lines_of (end_in s) whole
    same_end = ap (λ (f : FoldValue). lines_of (end_byte f.rule.ending) whole) took.takes.folds.state

    pub stopped_rest : (e : LinesError) (c : CountsValue) (new : Text) → Stops e m.fold (lines_of (end_in m) whole) c mid new
        → StopsIn e s piece c old new
    stopped_rest e c new stops = record {
      lines = lines;
      unended = begun;
      cut = some_cut;
      stops = stops_more total e s.fold m.fold (first_line ∷ []) (lines_of (end_in s) whole) c old mid new took_first
          (subst (λ l. Stops e m.fold l c mid new) same_end stops);
    }

    module _ (g : FoldValue) (new : Text) (rest : TakesLines m.fold (lines_of (end_in m) whole) g mid new) where
      took_lines : TakesLines s.fold (first_line ∷ lines_of (end_in s) whole) g old new
      took_lines = takes_more total s.fold m.fold g (first_line ∷ []) (lines_of (end_in s) whole) old mid new took_first
          (subst (λ l. TakesLines m.fold l g mid new) same_end rest)

      pub took_some : (left : Text) → left ≡ take longest_front begun
          → Takes s piece (record { fold = g; at_front = false; begun = left }) old new
      took_some left is = record {
        lines = lines;
        unended = begun;
        cut = some_cut;
        takes = took_lines;
        state = λ i. record { fold = g; at_front = sym (and_false s.at_front) i; begun = is i };
      }

      pub pushed_some : (t : LinesValue) (left : Text) → left ≡ []
          → t ≡ record { fold = g; at_front = false; begun = take longest_front (left ++ begun) } → Takes s piece t old new
      pushed_some t left none is =
          subst (λ (v : LinesValue). Takes s piece v old new) (sym is) (took_some _ (ap (λ l. take longest_front (l ++ begun)) none))

      pub stopped_last : (c : CountsValue) (after : Text) → c ≡ g.counts → after ≡ new → StopsIn OutOfMemory s piece c old after
      stopped_last c after same is = record {
        lines = lines;
        unended = begun;
        cut = some_cut;
        stops = stops_last s.fold g (first_line ∷ lines_of (end_in s) whole) c old new after took_lines same is;
      }

-- ---- the line that has begun

module _ (s : LinesValue) (end held old new : Text) (is : held ≡ take longest_front (s.begun ++ end)) where
  shows : Shows s.fold.rule (some_line (after_mark s.at_front held)) (some_line (after_mark s.at_front (s.begun ++ end)))
  shows = subst (λ l. Shows s.fold.rule (some_line (after_mark s.at_front l)) (some_line (after_mark s.at_front (s.begun ++ end)))) (sym is)
      (shows_held s.fold.rule s.at_front (s.begun ++ end))

  pub ended_line : (g : FoldValue) (left : Text) → left ≡ [] → TakesLines s.fold (some_line (after_mark s.at_front held)) g old new
      → EndsLine s end (record s { fold = g; begun = left }) old new
  ended_line g left none takes = record {
    takes = takes_shown s.fold g _ _ old new shows takes;
    state = λ i. record s { fold = g; begun = none i };
  }

  pub stopped_line : (e : LinesError) (c : CountsValue) → Stops e s.fold (some_line (after_mark s.at_front held)) c old new
      → Stops e s.fold (some_line (after_mark s.at_front (s.begun ++ end))) c old new
  stopped_line e c stops = stops_shown e s.fold _ _ c old new shows stops

-- the state of a value with private fields may be replaced by an equal one
pub seen_ended : (value s t : LinesValue) (end old new : Text) → value ≡ s → EndsLine value end t old new → EndsLine s end t old new
seen_ended value s t end old new is ends = subst (λ (v : LinesValue). EndsLine v end t old new) is ends

pub seen_stopped : (e : LinesError) (value s : LinesValue) (end : Text) (c : CountsValue) (old new : Text) → value ≡ s
    → Stops e value.fold (some_line (after_mark value.at_front (value.begun ++ end))) c old new
    → Stops e s.fold (some_line (after_mark s.at_front (s.begun ++ end))) c old new
seen_stopped e value s end c old new is stops =
    subst (λ (v : LinesValue). Stops e v.fold (some_line (after_mark v.at_front (v.begun ++ end))) c old new) is stops

-- the end of a file ends the line that has begun
pub ended_file : (s m : LinesValue) (closes : Bool) (old new : Text) → NoEnd (end_in s) s.begun
    → EndsLine s (closing closes (after_mark s.at_front s.begun) (end_in s ∷ [])) m old new
    → Ends closes s (record m { at_front = true }) old new
ended_file s m closes old new none ends = record {
  takes = subst (λ l. TakesLines s.fold l m.fold old new) (last_closed s.fold.rule.ending s.at_front closes s.begun none) ends.takes;
  state = λ i. record (ends.state i) { at_front = true };
}

pub stopped_file : (e : LinesError) (s : LinesValue) (closes : Bool) (c : CountsValue) (old new : Text) → NoEnd (end_in s) s.begun
    → Stops e s.fold (some_line (after_mark s.at_front (s.begun ++ closing closes (after_mark s.at_front s.begun)
    (end_in s ∷ [])))) c old new
    → Stops e s.fold (last_lines closes s) c old new
stopped_file e s closes c old new none stops =
    subst (λ l. Stops e s.fold l c old new) (last_closed s.fold.rule.ending s.at_front closes s.begun none) stops

-- ---- one piece after another

module _ (total : IsTotalOrder precedence) where
  pub took_both : (s t u : LinesValue) (p q old mid new : Text) → Takes s p t old mid → Takes t q u mid new → Takes s (p ++ q) u old new
  took_both s t u p q old mid new a b =
      let rule = ap (λ (f : FoldValue). f.rule) a.takes.folds.state in
      let front = ap (λ (v : LinesValue). v.at_front) a.state in
      let held = ap (λ (v : LinesValue). v.begun) a.state in
      let cut = subst (λ (l : Text). AreCut (end_in s) (l ++ q) b.lines b.unended) held
      (subst (λ (r : LineRule). AreCut (end_byte r.ending) (t.begun ++ q) b.lines b.unended) rule b.cut) in
      let on = continues (end_in s) t.fold.rule t.at_front a.unended q b.lines b.unended a.cut.no_end cut in
      let later = takes_shown t.fold u.fold (marked_off t.at_front b.lines)
      (marked_off t.at_front on.whole_lines) mid new on.shows b.takes in
      let off = sym (off_append s.at_front a.lines on.whole_lines ∙ ap (λ f. marked_off s.at_front a.lines ++ marked_off f
      on.whole_lines) (sym front)) in
      record {
        lines = a.lines ++ on.whole_lines;
        unended = on.whole_left;
        cut = subst (λ l. AreCut (end_in s) l (a.lines ++ on.whole_lines) on.whole_left) (append_assoc s.begun p q)
            (cut_append (end_in s) (s.begun ++ p) q a.unended on.whole_left a.lines on.whole_lines a.cut on.cut);
        takes = subst (λ l. TakesLines s.fold l u.fold old new) off
            (takes_more total s.fold t.fold u.fold (marked_off s.at_front a.lines)
            (marked_off t.at_front on.whole_lines) old mid new a.takes later);
        state = b.state ∙ (λ i. record {
          fold = u.fold;
          at_front =
              (ap (λ f. f && is_empty b.lines) front ∙ ap (λ e. (s.at_front && is_empty a.lines) && e) on.same_none
              ∙ front_append s.at_front a.lines on.whole_lines) i;
          begun = on.same_left i;
        });
      }

  took_pieces_after : (s t u : LinesValue) (text : Text) (pieces : List Text) (old mid new : Text) → Takes s text t old mid
      → TakesPieces t pieces u mid new → Takes s (text ++ concat pieces) u old new
  took_pieces_after s t u text [] old mid new a b =
      subst (λ l. Takes s l u old new) (sym (append-nil text))
      (subst (λ (v : LinesValue). Takes s text v old new) (sym b.0) (subst (Takes s text t old) (sym b.1) a))
  took_pieces_after s t u text (piece ∷ pieces) old mid new a (m, after, p, ps) =
      subst (λ l. Takes s l u old new) (append_assoc text piece (concat pieces))
      (took_pieces_after s m u (text ++ piece) pieces old after new (took_both s t m text piece old mid after a p) ps)

  pub took_pieces : (s t : LinesValue) (pieces : List Text) (old new : Text) → TakesPieces (begun_text s) pieces t old new
      → Takes (begun_text s) (concat pieces) t old new
  took_pieces s t pieces old new b =
      took_pieces_after (begun_text s) (begun_text s) t [] pieces old old new
      (took_none (begun_text s) [] (λ best. omega arith) (omega arith) (omega arith) [] old refl) b

-- ---- a whole text

whole_ended : (end : ℕ) (line : Text) → IsWholeLine end line → ended end line ≡ line
whole_ended end line whole = grind (arith, common_steps)

each_ended : (end : ℕ) (lines : List Text) → AllByRecursion (IsWholeLine end) lines → map (λ line. ended end line) lines ≡ lines
each_ended end [] each = refl
each_ended end (x ∷ xs) each = cc (whole_ended end x each.0, each_ended end xs each.1)

each_marked : (ending : LineEnd) (lines : List Text) → AllByRecursion (IsWholeLine (end_byte ending)) lines
    → AllByRecursion (IsWholeLine (end_byte ending)) (marked_off true lines)
each_marked ending [] each = tt
each_marked ending (x ∷ xs) each = (whole_marked ending true x each.0, each.1)

-- the lines of a text without its byte order mark are the whole lines at its beginning, and then the
-- lines of the rest
lines_whole : (ending : LineEnd) (closes : Bool) (lines : List Text) (rest : Text) → AllByRecursion (IsWholeLine (end_byte ending)) lines
    → lines_in closes (end_byte ending) (without_mark (concat lines ++ rest))
    ≡ marked_off true lines ++ lines_in closes (end_byte ending) (after_mark (is_empty lines) rest)
lines_whole ending false lines rest each = marked_lines ending lines rest each
lines_whole ending true lines rest each =
    let last = lines_of (end_byte ending) (after_mark (is_empty lines) rest) in
    ap (map (λ (l : Text). ended (end_byte ending) l)) (marked_lines ending lines rest each)
    ∙ map-append (λ (l : Text). ended (end_byte ending) l) (marked_off true lines) last
    ∙ ap (λ l. l ++ map (λ (l : Text). ended (end_byte ending) l) last) (each_ended (end_byte ending) (marked_off true lines)
    (each_marked ending lines each))

module _ (total : IsTotalOrder precedence) where
  pub took_text : (s t u : LinesValue) (text old mid new : Text) → Takes (begun_text s) text t old mid → Finishes t u mid new
      → Completes s (without_mark text) u old new
  took_text s t u text old mid new a b =
      let closes = closes_last s in
      let fold = (begun_text s).fold in
      let rule = ap (λ (f : FoldValue). f.rule) a.takes.folds.state in
      let front = ap (λ (v : LinesValue). v.at_front) a.state in
      let left = ap (λ (v : LinesValue). v.begun) a.state in
      let wanted = same_wanted fold.held.selection fold.held t.fold.held (selected_of a.takes.verdicts) a.takes.folds.added
      a.takes.folds.holds in
      let end = end_byte s.fold.rule.ending in
      let is_front = is_empty a.lines in
      let last = lines_in closes end (after_mark is_front a.unended) in
      let held : last_lines (closes_last t) t ≡ lines_in closes end (after_mark is_front (take longest_front a.unended)) =
      λ i. lines_in (is_sorted (wanted i)) (end_byte (rule i).ending) (after_mark (front i) (left i)) in
      let shown = shows_last s.fold.rule.ending is_front closes t.fold.rule a.unended a.cut.no_end in
      let later = takes_shown t.fold b.last.fold (lines_in closes end (after_mark is_front
      (take longest_front a.unended))) last mid b.before shown
      (subst (λ l. TakesLines t.fold l b.last.fold mid b.before) held b.ends.takes) in
      let all = takes_more total fold t.fold b.last.fold (marked_off true a.lines) last old mid b.before a.takes later in
      let lines = ap (λ l. lines_in closes end (without_mark l)) a.cut.whole
      ∙ lines_whole s.fold.rule.ending closes a.lines a.unended a.cut.each in
      let same = same_wanted fold.held.selection fold.held b.last.fold.held (selected_of all.verdicts) all.folds.added all.folds.holds in
      record {
        verdicts = all.verdicts;
        each = subst (λ l. AreVerdictsOn s.fold.rule l all.verdicts) (sym lines) all.folds.each;
        written = all.folds.added ++ b.rest;
        writes = written total s.fold.held.selection fold.held b.last.fold.held (selected_of all.verdicts) all.folds.added b.rest refl
            all.folds.holds b.answers.0 b.answers.1 (b.answers.2 ∙ ap (λ w. text_of (in_order w b.answers.0)) same);
        appended = b.appended ∙ ap (λ l. l ++ b.rest) all.folds.appended ∙ append_assoc old all.folds.added b.rest;
        state = b.state
            ∙ (λ i. record (b.ends.state i) { fold = record b.last.fold { held = emptied b.last.fold.held } })
            ∙ (λ i. record {
              fold = record (all.folds.state i) { held = record { selection = same i; lines = [] } };
              at_front = true;
              begun = [];
            });
        valid = all.valid;
      }

-- ---- the held bytes of the line that has begun

pub held_begun : {E : Type 0} (end : ℕ) (begun bytes left : Text) (r : Result (Unit {0}) E) → IsBegun end begun → NoEnd end bytes
    → IfOk r (λ _. left ≡ take longest_front (begun ++ bytes)) → IfErr r (λ _. left ≡ begun) → IsBegun end left
held_begun end begun bytes left (Ok x) is none held same = record {
  no_end = subst (NoEnd end) (sym held)
      (All-take (λ b. b ≢ end) longest_front (begun ++ bytes) (All-append (λ b. b ≢ end) begun bytes is.no_end none));
  short = omega (arith, ap length held, length-take longest_front (begun ++ bytes));
}
held_begun end begun bytes left (Err e) is none held same = subst (IsBegun end) (sym same) is

-- ---- the result of one call

pub on_ok : {T E : Type 0} (r : Result T E) (A B : Type 0) → (A → B) → IfOk r (λ _. A) → IfOk r (λ _. B)
on_ok (Ok x) A B f a = f a
on_ok (Err e) A B f a = tt

pub on_err : {T E : Type 0} (r : Result T E) (A B : E → Type 0) → ((e : E) → A e → B e) → IfErr r A → IfErr r B
on_err (Ok x) A B f a = tt
on_err (Err e) A B f a = f e a

pub on_both : {T E : Type 0} (r : Result T E) (A : Type 0) (B C : E → Type 0) → ((e : E) → A → B e → C e) → IfErr r (λ _. A) → IfErr r B
    → IfErr r C
on_both (Ok x) A B C f a b = tt
on_both (Err e) A B C f a b = f e a b

-- The lines that are held after no lines, after some and after more. There is only one possibility.
use Rattle.std.proofs.Common.{◌≡◌, ◌≢◌, ◌⊎◌, ◌∙◌, ◌++◌, ◌∷◌, ◌≤◌, [], List, true, false, refl, sym, ap, subst, inl, inr, arith, rules}
use Rattle.std.proofs.Common.{append_assoc, append-nil, length, Less, Equal, Greater}
use Rattle.std.proofs.lemmas.List.{map-append}
use Rattle.std.proofs.lemmas.List.Folds.{concat-append}
use Rattle.std.specs.Cmp.{IsTotalOrder, back_total}
use Rattle.std.specs.List.{AllByRecursion}
use Rattle.std.specs.Ordering.{is_gt, is_lt, ordering_reverse}
use Rattle.std.specs.declared.cmp.Ordering.{Ordering}
use Rattle.semver_texts.specs.Precedence.{precedence}
use Rattle.semver_texts.specs.Texts.{Text}
use Rattle.semver_texts.specs.Versions.{PlainVersion}
use Rattle.release_filter.specs.Verdicts.{Verdict}
use Rattle.release_filter.specs.Selections.{HeldValue, Holds, HoldsBy, IsBest, IsFew, IsFirstHighest, SelectedValue}
use Rattle.release_filter.specs.Selections.{is_best, selected_as, selected_of, order_of}
use Rattle.release_filter.specs.Steps.Sorting.{is_better, is_better_by}
use Rattle.release_filter.specs.Steps.Taking.{verdict_of, without_version}
use Rattle.release_filter.specs.declared.judge.Judged.{Judged}
use Rattle.release_filter.specs.declared.judge.Judged.TheVariants.{NotAVersion, Outside, Kept}
use Rattle.release_filter.specs.declared.selection.Selection.{Selection}
use Rattle.release_filter.specs.declared.selection.Selection.TheVariants.{Each, Highest, Lowest, Sorted, Reversed}
use Rattle.release_filter.proofs.Tests.{all_append, all_map}
use Rattle.release_filter.proofs.Matching.{not_both}
use Rattle.std.proofs.lemmas.Grind.{common_steps}

-- ---- the kept lines

pub kept_append : (xs ys : List Verdict) → selected_of (xs ++ ys) ≡ selected_of xs ++ selected_of ys
kept_append [] ys = refl
kept_append (x ∷ xs) ys = ap (λ l. selected_as x ++ l) (kept_append xs ys) ∙ sym (append_assoc (selected_as x) (selected_of xs)
    (selected_of ys))

-- ---- the highest by an order

-- the order of a selection, which is precedence or its reverse, is total
pub total_of : (selection : Selection) → IsTotalOrder precedence → IsTotalOrder (order_of selection)
total_of Each total = total
total_of Highest total = total
total_of Lowest total = back_total total
total_of Sorted total = total
total_of Reversed total = total

module _ (order : PlainVersion → PlainVersion → Ordering) where
  abbrev IsUnder : SelectedValue → SelectedValue → Type 0
  IsUnder best k = order k.version best.version ≡ Less

  abbrev IsNotOver : SelectedValue → SelectedValue → Type 0
  IsNotOver best k = order k.version best.version ≢ Greater

  pub best_of_none : (best : List SelectedValue) → length best ≤ 1 → IsBest order (best ++ []) best
  best_of_none [] few = refl
  best_of_none (best ∷ []) few = record { before = []; after = []; split = refl; earlier = tt; later = tt }
  best_of_none (best ∷ other ∷ more) few = absurd (omega arith)

  pub first_best : (k : SelectedValue) → IsBest order (k ∷ []) (k ∷ [])
  first_best k = record { before = []; after = []; split = refl; earlier = tt; later = tt }

  -- the best line after one more, which is better or isn't
  pub better_one : (best k : SelectedValue) → IsUnder k best → IsBest order (best ∷ k ∷ []) (k ∷ [])
  better_one best k under = record { before = best ∷ []; after = []; split = refl; earlier = (under, tt); later = tt }

  pub not_better : (best k : SelectedValue) → IsNotOver best k → IsBest order (best ∷ k ∷ []) (best ∷ [])
  not_better best k under = record { before = []; after = k ∷ []; split = refl; earlier = tt; later = (under, tt) }

  module _ (total : IsTotalOrder order) where
    pub isnt_over : (v w : PlainVersion) → ¬ (order w v ≡ Less) → order v w ≢ Greater
    isnt_over v w low = search rules

    -- if k isn't above `best`, and `best` is below c, then k is below c
    under_both : (best c k : SelectedValue) → IsUnder c best → IsNotOver best k → IsUnder c k
    under_both best c k under low = search rules

    not_none : (xs ys : List SelectedValue) (k : SelectedValue) → ¬ (xs ++ k ∷ ys ≡ [])
    not_none [] ys k e = cc
    not_none (x ∷ xs) ys k e = cc

    -- the best line of xs and ys together is the best of these: the best line of xs, and all lines of ys
    pub best_added : (xs ys m n : List SelectedValue) → IsBest order xs m → IsBest order (m ++ ys) n → IsBest order (xs ++ ys) n
    best_added xs ys [] n none b = rw none b
    best_added xs ys (best ∷ other ∷ more) n a b = absurd a
    best_added xs ys (best ∷ []) [] a none = cc
    best_added xs ys (best ∷ []) (c ∷ d ∷ more) a b = b
    best_added xs ys (best ∷ []) (c ∷ []) a b = at b.before b.split b.earlier
      where
        at : (before : List SelectedValue) → best ∷ ys ≡ before ++ c ∷ b.after → AllByRecursion (IsUnder c) before
            → IsFirstHighest order (xs ++ ys) c
        at [] e earlier =
            grind (arith, common_steps)
        at (z ∷ before) e earlier =
            let same : z ≡ best = cc in
            let rest : ys ≡ before ++ c ∷ b.after = cc in
            let under = rw same at earlier.0 in record {
              before = xs ++ before;
              after = b.after;
              split = grind (arith, common_steps);
              earlier = all_append (IsUnder c) xs before
                  (rw a.split (all_append (IsUnder c) a.before (best ∷ a.after)
                  (all_map (IsUnder best) (IsUnder c) (λ k low. total.trans k.version best.version c.version low under) a.before a.earlier)
                  (under, all_map (IsNotOver best) (IsUnder c) (λ k low. under_both best c k under low) a.after a.later)))
                  earlier.1;
              later = b.later;
            }

    -- if no line is above x, then x is below none of them
    before_it : (x y : SelectedValue) → IsUnder y x → (front back : List SelectedValue) → AllByRecursion (IsNotOver x)
        (front ++ y ∷ back) → ⊥
    before_it x y under [] back p = search rules
    before_it x y under (z ∷ front) back p = before_it x y under front back p.1

    same_place : (x y : SelectedValue) (front front' back back' : List SelectedValue) → front ++ x ∷ back ≡ front' ++ y ∷ back'
        → AllByRecursion (IsUnder x) front → AllByRecursion (IsUnder y) front' → AllByRecursion (IsNotOver x) back
        → AllByRecursion (IsNotOver y) back' → x ≡ y
    same_place x y [] [] back back' e p q p' q' = cc
    same_place x y [] (z ∷ front) back back' e p q p' q' = grind (arith, before_it)
    same_place x y (z ∷ front) [] back back' e p q p' q' = grind (arith, before_it)
    same_place x y (z ∷ front) (z' ∷ front') back back' e p q p' q' = same_place x y front front' back back' (cc) p.1 q.1 p' q'

    pub one_best : (xs m n : List SelectedValue) → IsBest order xs m → IsBest order xs n → m ≡ n
    one_best xs [] [] a b = refl
    one_best xs [] (y ∷ []) none b = absurd (not_none b.before b.after y (sym b.split ∙ none))
    one_best xs (x ∷ []) [] a none = absurd (not_none a.before a.after x (sym a.split ∙ none))
    one_best xs (x ∷ []) (y ∷ []) a b = grind (arith, same_place)
    one_best xs (x ∷ z ∷ more) n a b = absurd a
    one_best xs m (y ∷ z ∷ more) a b = absurd b

-- ---- the best line

over_is : {p : Ordering} (o : Ordering) → is_gt o ≡ true → p ≡ ordering_reverse o → p ≡ Less
over_is Less e is = cc
over_is Equal e is = cc
over_is Greater e is = is

under_is : (o : Ordering) → is_lt o ≡ true → o ≡ Less
under_is Less e = refl
under_is Equal e = cc
under_is Greater e = cc

is_over : (o : Ordering) → ordering_reverse o ≡ Less → is_gt o ≡ true
is_over Less e = cc
is_over Equal e = cc
is_over Greater e = refl

module _ (total : IsTotalOrder precedence) where
  -- a version compares as better than b if and only if b is below it by the order of the selection
  better_over : (w : Selection) (b k : PlainVersion) → is_better_by w (precedence k b) ≡ true → order_of w b k ≡ Less
  better_over Each b k e = over_is (precedence k b) e (total.antisymm b k)
  better_over Highest b k e = over_is (precedence k b) e (total.antisymm b k)
  better_over Lowest b k e = under_is (precedence k b) e
  better_over Sorted b k e = over_is (precedence k b) e (total.antisymm b k)
  better_over Reversed b k e = over_is (precedence k b) e (total.antisymm b k)

  better_less : (w : Selection) (b k : PlainVersion) → order_of w b k ≡ Less → is_better_by w (precedence k b) ≡ true
  better_less Each b k e = is_over (precedence k b) (sym (total.antisymm b k) ∙ e)
  better_less Highest b k e = is_over (precedence k b) (sym (total.antisymm b k) ∙ e)
  better_less Lowest b k e = ap is_lt e
  better_less Sorted b k e = is_over (precedence k b) (sym (total.antisymm b k) ∙ e)
  better_less Reversed b k e = is_over (precedence k b) (sym (total.antisymm b k) ∙ e)

  module _ (w : Selection) (k : SelectedValue) where
    pub stays : (held : List SelectedValue) → length held ≤ 1 → is_better w k.version held ≡ false → IsBest (order_of w)
        (held ++ k ∷ []) held
    stays [] few e = cc
    stays (b ∷ []) few e =
        not_better (order_of w) b k
        (isnt_over (order_of w) (total_of w total) k.version b.version (λ less. not_both (better_less w b.version k.version less) e))
    stays (b ∷ c ∷ more) few e = absurd (omega arith)

    pub replaces : (held : List SelectedValue) → length held ≤ 1 → is_better w k.version held ≡ true
        → IsBest (order_of w) (held ++ k ∷ []) (k ∷ [])
    replaces [] few e = first_best (order_of w) k
    replaces (b ∷ []) few e = better_one (order_of w) b k (better_over w b.version k.version e)
    replaces (b ∷ c ∷ more) few e = absurd (omega arith)

-- ---- the held lines

pub same_wanted : (w : Selection) (h g : HeldValue) (xs : List SelectedValue) (a : Text) → HoldsBy w h xs g a → g.selection ≡ h.selection
same_wanted Each h g xs a p = cc
same_wanted Sorted h g xs a p = cc
same_wanted Reversed h g xs a p = cc
same_wanted Highest h g xs a p = ap (λ (v : HeldValue). v.selection) p.1
same_wanted Lowest h g xs a p = ap (λ (v : HeldValue). v.selection) p.1

holds_none_by : (w : Selection) (h : HeldValue) → IsFew w (length h.lines) → HoldsBy w h [] h []
holds_none_by Each h few = (refl, refl)
holds_none_by Sorted h few = ((λ i. record h { lines = sym (append-nil h.lines) i }), refl)
holds_none_by Reversed h few = ((λ i. record h { lines = sym (append-nil h.lines) i }), refl)
holds_none_by Highest h few = (best_of_none (order_of Highest) h.lines (few refl), refl, refl)
holds_none_by Lowest h few = (best_of_none (order_of Lowest) h.lines (few refl), refl, refl)

pub holds_none : (h : HeldValue) → IsFew h.selection (length h.lines) → Holds h [] h []
holds_none h few = holds_none_by h.selection h few

both_none : (a b : Text) → a ≡ [] → b ≡ [] → a ++ b ≡ []
both_none a b p q = cc

module _ (total : IsTotalOrder precedence) where
  best_both : (w : Selection) (h g k : HeldValue) (xs ys : List SelectedValue) → IsBest (order_of w) (h.lines ++ xs) g.lines
      → g ≡ record h { lines = g.lines } → IsBest (order_of w) (g.lines ++ ys) k.lines → k ≡ record g { lines = k.lines }
      → IsBest (order_of w) (h.lines ++ (xs ++ ys)) k.lines × (k ≡ record h { lines = k.lines })
  best_both w h g k xs ys a is b so = (
    rw (← append_assoc h.lines xs ys) (best_added (order_of w) (total_of w total) (h.lines ++ xs) ys g.lines k.lines a b),
    so ∙ ap (λ (v : HeldValue). record v { lines = k.lines }) is,
  )

  holds_more_by : (w : Selection) (h g k : HeldValue) (xs ys : List SelectedValue) (a b : Text) → HoldsBy w h xs g a
      → HoldsBy w g ys k b → HoldsBy w h (xs ++ ys) k (a ++ b)
  holds_more_by Each h g k xs ys a b p q = grind (arith, common_steps, map-append, concat-append)
  holds_more_by Sorted h g k xs ys a b p q = grind (arith, common_steps)
  holds_more_by Reversed h g k xs ys a b p q = grind (arith, common_steps)
  holds_more_by Highest h g k xs ys a b p q =
      let both = best_both Highest h g k xs ys p.0 p.1 q.0 q.1 in (both.0, both.1, both_none a b p.2 q.2)
  holds_more_by Lowest h g k xs ys a b p q =
      let both = best_both Lowest h g k xs ys p.0 p.1 q.0 q.1 in (both.0, both.1, both_none a b p.2 q.2)

  -- the effect of some lines and then of more is that of all together
  pub holds_more : (h g k : HeldValue) (xs ys : List SelectedValue) (a b : Text) → Holds h xs g a → Holds g ys k b
      → Holds h (xs ++ ys) k (a ++ b)
  holds_more h g k xs ys a b p q =
      holds_more_by h.selection h g k xs ys a b p (subst (λ w. HoldsBy w g ys k b) (same_wanted h.selection h g xs a p) q)

  one_holding_by : (w : Selection) (h g k : HeldValue) (xs : List SelectedValue) (a b : Text) → HoldsBy w h xs g a
      → HoldsBy w h xs k b → (g ≡ k) × (a ≡ b)
  one_holding_by Each h g k xs a b p q = (p.0 ∙ sym q.0, p.1 ∙ sym q.1)
  one_holding_by Sorted h g k xs a b p q = (p.0 ∙ sym q.0, p.1 ∙ sym q.1)
  one_holding_by Reversed h g k xs a b p q = (p.0 ∙ sym q.0, p.1 ∙ sym q.1)
  one_holding_by Highest h g k xs a b p q =
      let same = one_best (order_of Highest) (total_of Highest total) _ g.lines k.lines p.0 q.0 in
      (p.1 ∙ ap (λ l. record h { lines = l }) same ∙ sym q.1, p.2 ∙ sym q.2)
  one_holding_by Lowest h g k xs a b p q =
      let same = one_best (order_of Lowest) (total_of Lowest total) _ g.lines k.lines p.0 q.0 in
      (p.1 ∙ ap (λ l. record h { lines = l }) same ∙ sym q.1, p.2 ∙ sym q.2)

  pub one_holding : (h g k : HeldValue) (xs : List SelectedValue) (a b : Text) → Holds h xs g a → Holds h xs k b
      → (g ≡ k) × (a ≡ b)
  one_holding h g k xs a b p q = one_holding_by h.selection h g k xs a b p q

pub best_wanted : (w : Selection) → (w ≡ Highest) ⊎ (w ≡ Lowest) → is_best w ≡ true
best_wanted w (inl e) = ap is_best e
best_wanted w (inr e) = ap is_best e

pub selected_text : (text : Text) → selected_as (without_version text) ≡ []
selected_text [] = refl
selected_text (x ∷ xs) = refl

-- a line that isn't kept isn't selected
pub none_selected : (r : Judged) → ((borrowed : _) (given : _) → r ≡ Kept borrowed given → ⊥) → selected_as (verdict_of r) ≡ []
none_selected (NotAVersion text) isnt = selected_text text.now
none_selected Outside isnt = refl
none_selected (Kept borrowed given) isnt = absurd (isnt borrowed given refl)

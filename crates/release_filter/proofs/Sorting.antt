-- Lines have only one stable sort by precedence, and held lines are written in only one way.
use Rattle.std.proofs.Common.{◌≡◌, ◌≢◌, ◌∙◌, ◌++◌, ◌∷◌, ◌≤◌, [], List, suc, Bool, true, false, cond, refl, sym, ap, ap₂, arith, length}
use Rattle.std.proofs.Common.{append-nil, filter, Less, Equal, Greater}
use Rattle.std.proofs.lemmas.List.Sorted.{IsPermutation-refl}
use Rattle.std.specs.Cmp.{IsTotalOrder}
use Rattle.std.specs.List.{AllPairs}
use Rattle.std.specs.Ordering.{is_eq, ordering_reverse}
use Rattle.std.specs.declared.cmp.Ordering.{Ordering}
use Rattle.semver_texts.specs.Precedence.{precedence}
use Rattle.semver_texts.specs.Texts.{Text}
use Rattle.semver_texts.specs.Versions.{PlainVersion}
use Rattle.release_filter.specs.Selections.{Answers, HeldValue, HoldsBy, IsBest, IsStableSort, SelectedValue, Writes, in_order}
use Rattle.release_filter.specs.Selections.{order_of, text_of}
use Rattle.release_filter.specs.declared.selection.Selection.{Selection}
use Rattle.release_filter.specs.declared.selection.Selection.TheVariants.{Each, Highest, Lowest, Sorted, Reversed}
use Rattle.release_filter.proofs.Holding.{one_best, total_of}

-- the lines whose versions have the precedence of v
abbrev equals : PlainVersion → List SelectedValue → List SelectedValue
equals v lines = filter (λ k. is_eq (precedence k.version v)) lines

abbrev Rises : List SelectedValue → Type 0
Rises lines = AllPairs (λ (x y : SelectedValue). precedence x.version y.version ≢ Greater) lines

rises_tail : (x : SelectedValue) (xs : List SelectedValue) → Rises (x ∷ xs) → Rises xs
rises_tail x xs up = λ i j d before inside. up (suc i) (suc j) d (omega arith) (omega arith)

module _ (total : IsTotalOrder precedence) where
  itself : (v : PlainVersion) → precedence v v ≡ Equal
  itself v = at (precedence v v) refl
    where
      at : (o : Ordering) → precedence v v ≡ o → precedence v v ≡ Equal
      at Less e = absurd (let back = sym e ∙ total.antisymm v v ∙ ap ordering_reverse e in cc)
      at Equal e = e
      at Greater e = absurd (let back = sym e ∙ total.antisymm v v ∙ ap ordering_reverse e in cc)

  is_itself : (x : SelectedValue) → is_eq (precedence x.version x.version) ≡ true
  is_itself x = ap is_eq (itself x.version)

  equals_first : (x : SelectedValue) (xs : List SelectedValue) → equals x.version (x ∷ xs) ≡ x ∷ equals x.version xs
  equals_first x xs = ap (λ b. cond b (x ∷ equals x.version xs) (equals x.version xs)) (is_itself x)

  -- if lines are sorted, and v is below the first one, none has the precedence of v
  first_unequal : (v : PlainVersion) (x : SelectedValue) (xs : List SelectedValue) → precedence v x.version ≡ Less → equals v
      (x ∷ xs) ≡ equals v xs
  first_unequal v x xs less =
      ap (λ b. cond b (x ∷ equals v xs) (equals v xs)) (ap is_eq (total.antisymm x.version v ∙ ap ordering_reverse less))

  above_next : (v : PlainVersion) (x y : SelectedValue) → precedence v x.version ≡ Less → precedence x.version y.version ≢ Greater
      → precedence v y.version ≡ Less
  above_next v x y less low = at (precedence x.version y.version) refl low
    where
      at : (o : Ordering) → precedence x.version y.version ≡ o → o ≢ Greater → precedence v y.version ≡ Less
      at Less e low = total.trans v x.version y.version less e
      at Equal e low = total.antisymm v y.version
          ∙ ap ordering_reverse (sym (total.congr x.version y.version v e) ∙ total.antisymm x.version v ∙ ap ordering_reverse less)
      at Greater e low = absurd (low refl)

  none_equal : (v : PlainVersion) (x : SelectedValue) (xs : List SelectedValue) → precedence v x.version ≡ Less → Rises (x ∷ xs)
      → equals v (x ∷ xs) ≡ []
  none_equal v x [] less up = first_unequal v x [] less
  none_equal v x (y ∷ ys) less up =
      first_unequal v x (y ∷ ys) less
      ∙ none_equal v y ys (above_next v x y less (up 0 1 x (omega arith) (omega arith))) (rises_tail x (y ∷ ys) up)

  -- two lists are equal if they are so with an element added before both, or before neither
  tails : (x : SelectedValue) (xs ys : List SelectedValue) (b : Bool) → cond b (x ∷ xs) xs ≡ cond b (x ∷ ys) ys → xs ≡ ys
  tails x xs ys true e = cc
  tails x xs ys false e = e

  module _ (x y : SelectedValue) (xs ys : List SelectedValue) (up : Rises (x ∷ xs)) (up' : Rises (y ∷ ys))
      (same : (v : PlainVersion) → equals v (x ∷ xs) ≡ equals v (y ∷ ys)) where
    first_equal : precedence x.version y.version ≡ Equal
    first_equal = at (precedence x.version y.version) refl
      where
        at : (o : Ordering) → precedence x.version y.version ≡ o → precedence x.version y.version ≡ Equal
        at Less e = grind (arith, equals_first, none_equal)
        at Equal e = e
        at Greater e = grind (arith, equals_first, none_equal)

    first_same : x ≡ y
    first_same = grind (arith, ordering_reverse, first_equal)

    rest_same : (v : PlainVersion) → equals v xs ≡ equals v ys
    rest_same v =
        tails x _ _ _
        (same v ∙ ap (λ (k : SelectedValue). equals v (k ∷ ys)) (sym first_same))

  -- sorted lists of lines are equal if, for each version, they have the same lines with its precedence
  pub one_rising : (xs ys : List SelectedValue) → Rises xs → Rises ys → ((v : PlainVersion) → equals v xs ≡ equals v ys) → xs ≡ ys
  one_rising [] [] up up' same = refl
  one_rising [] (y ∷ ys) up up' same = absurd (let some = same y.version ∙ equals_first y ys in cc)
  one_rising (x ∷ xs) [] up up' same = absurd (let some = sym (same x.version) ∙ equals_first x xs in cc)
  one_rising (x ∷ xs) (y ∷ ys) up up' same =
      ap₂ (λ k ks. k ∷ ks) (first_same x y xs ys up up' same)
      (one_rising xs ys (rises_tail x xs up) (rises_tail y ys up') (rest_same x y xs ys up up' same))

  pub one_sort : (lines xs ys : List SelectedValue) → IsStableSort lines xs → IsStableSort lines ys → xs ≡ ys
  one_sort lines xs ys a b = one_rising xs ys a.rises b.rises (λ v. a.stable v ∙ sym (b.stable v))

  pub one_answer : (h : HeldValue) (a b : Text) → Answers h a → Answers h b → a ≡ b
  one_answer h a b (xs, sort, is) (ys, sort', so) =
      is ∙ ap (λ l. text_of (in_order h.selection l)) (one_sort h.lines xs ys sort sort') ∙ sym so

  -- ---- a list of at most one line is sorted

  few_sorted : (xs : List SelectedValue) → length xs ≤ 1 → IsStableSort xs xs
  few_sorted xs few = record {
    rearranged = IsPermutation-refl xs;
    rises = λ i j d before inside. absurd (omega arith);
    stable = λ v. refl;
  }

  sort_few : (xs sorted : List SelectedValue) → length xs ≤ 1 → IsStableSort xs sorted → sorted ≡ xs
  sort_few xs sorted few sort = one_sort xs sorted xs sort (few_sorted xs few)

  best_few : (order : PlainVersion → PlainVersion → Ordering) (xs best : List SelectedValue) → IsBest order xs best → length best ≤ 1
  best_few order xs [] is = omega arith
  best_few order xs (b ∷ []) is = omega arith
  best_few order xs (b ∷ c ∷ more) is = absurd is

  -- ---- the bytes that are written

  pub written : (w : Selection) (h g : HeldValue) (xs : List SelectedValue) (added rest : Text) → h.lines ≡ [] → HoldsBy w h xs g added
      → (sorted : List SelectedValue) → IsStableSort g.lines sorted → rest ≡ text_of (in_order w sorted) → Writes w xs (added ++ rest)
  written Each h g xs added rest none p sorted sort is =
      let nothing = ap (λ (v : HeldValue). v.lines) p.0 ∙ none in
      let all = sort_few g.lines sorted (omega (arith, ap length nothing)) sort ∙ nothing in
      ap₂ (λ a b. a ++ b) p.1 (is ∙ ap text_of all) ∙ append-nil (text_of xs)
  written Highest h g xs added rest none p sorted sort is = (
    g.lines,
    rw none at p.0,
    ap₂ (λ a b. a ++ b) p.2 (is ∙ ap text_of (sort_few g.lines sorted (best_few (order_of Highest) _ g.lines p.0) sort)),
  )
  written Lowest h g xs added rest none p sorted sort is = (
    g.lines,
    rw none at p.0,
    ap₂ (λ a b. a ++ b) p.2 (is ∙ ap text_of (sort_few g.lines sorted (best_few (order_of Lowest) _ g.lines p.0) sort)),
  )
  written Sorted h g xs added rest none p sorted sort is =
      let lines = ap (λ (v : HeldValue). v.lines) p.0 ∙ ap (λ l. l ++ xs) none in
      (sorted, rw lines at sort, ap₂ (λ a b. a ++ b) p.1 is)
  written Reversed h g xs added rest none p sorted sort is =
      let lines = ap (λ (v : HeldValue). v.lines) p.0 ∙ ap (λ l. l ++ xs) none in
      (sorted, rw lines at sort, ap₂ (λ a b. a ++ b) p.1 is)

  pub one_written : (w : Selection) (xs : List SelectedValue) (a b : Text) → Writes w xs a → Writes w xs b → a ≡ b
  one_written Each xs a b p q = p ∙ sym q
  one_written Highest xs a b p q =
      p.2 ∙ ap text_of (one_best (order_of Highest) (total_of Highest total) xs p.0 q.0 p.1 q.1) ∙ sym q.2
  one_written Lowest xs a b p q =
      p.2 ∙ ap text_of (one_best (order_of Lowest) (total_of Lowest total) xs p.0 q.0 p.1 q.1) ∙ sym q.2
  one_written Sorted xs a b p q = p.2 ∙ ap text_of (one_sort xs p.0 q.0 p.1 q.1) ∙ sym q.2
  one_written Reversed xs a b p q = p.2 ∙ ap (λ l. text_of (in_order Reversed l)) (one_sort xs p.0 q.0 p.1 q.1) ∙ sym q.2

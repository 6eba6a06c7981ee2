-- A list and a permutation of it are equal after both are filtered by a test, if the permutation
-- keeps the order of the elements that pass.
use Rattle.std.proofs.Common.{◌≡◌, ◌∙◌, ◌∷◌, [], List, ℕ, ◌==◌, ◌<◌, ◌≤◌, Bool, true, cond, refl, sym, ap, ap₂, arith}
use Rattle.std.proofs.Common.{IsPermutation, filter, get_or, length, suc}
use Rattle.std.proofs.lemmas.Bool.Decides.{nat_tests}
use Rattle.std.proofs.lemmas.List.{get_or_default}
use Rattle.std.proofs.lemmas.List.Elements.{All-cons, All-filter, All-head, All-tail, All-weaker, filter_passes}
use Rattle.std.proofs.lemmas.List.Kept.{AllPairs-filter}
use Rattle.std.proofs.lemmas.List.Sorted.{All-permutation, sum_by-IsPermutation}
use Rattle.std.proofs.lemmas.List.Sums.{sum_by-cons}
use Rattle.std.specs.List.{All, AllPairs, sum_by}

module _ {X : Type 0} (index : X → ℕ) where
  -- the elements have the indices 0, 1, 2 and so on
  abbrev pub AreIndexed : List X → Type 0
  AreIndexed xs = (k : ℕ) (d : X) → k < length xs → index (get_or xs k d) ≡ k

  -- x is the element of the list at the index of x
  abbrev IsAt : List X → X → Type 0
  IsAt xs x = (d : X) → get_or xs (index x) d ≡ x

  abbrev Rises : List X → Type 0
  Rises xs = AllPairs (λ x y. index x ≤ index y) xs

  abbrev has_index : ℕ → X → ℕ
  has_index k x = cond (index x == k) 1 0

  are_at : (xs : List X) → AreIndexed xs → All (IsAt xs) xs
  are_at xs indexed k d inside e = rw (indexed k d inside) (get_or_default xs k e d inside)

  rises_first : (x : X) (xs : List X) → Rises (x ∷ xs) → All (λ y. index x ≤ index y) xs
  rises_first x xs up k d inside = up 0 (suc k) d (omega arith) (omega arith)

  rises_tail : (x : X) (xs : List X) → Rises (x ∷ xs) → Rises xs
  rises_tail x xs up i j d before inside = up (suc i) (suc j) d (omega arith) (omega arith)

  -- no element has the index k if all have higher ones
  none_above : (k : ℕ) (xs : List X) → All (λ x. k < index x) xs → sum_by (has_index k) xs ≡ 0
  none_above k [] above = refl
  none_above k (x ∷ xs) above =
      let first = All-head (λ x. k < index x) x xs above in
      let rest = none_above k xs (All-tail (λ x. k < index x) x xs above) in
      sum_by-cons (has_index k) x xs ∙ grind (arith, nat_tests)

  module _ (x y : X) (xs ys : List X) (same : (f : X → ℕ) → sum_by f (x ∷ xs) ≡ sum_by f (y ∷ ys)) where
    not_below : Rises (y ∷ ys) → index x < index y → ⊥
    not_below up below =
        let above = All-cons (λ z. index x < index z) y ys below
        (All-weaker (λ z. index y ≤ index z) (λ z. index x < index z) (λ z low. omega arith) ys (rises_first y ys up)) in
        let none = sym (sum_by-cons (has_index (index x)) x xs) ∙ same (has_index (index x)) ∙ none_above (index x) (y ∷ ys) above in
        grind (arith, nat_tests)

  module _ (all : List X) (x y : X) (xs ys : List X) (up : Rises (x ∷ xs)) (up' : Rises (y ∷ ys)) (at : All (IsAt all) (x ∷ xs))
      (at' : All (IsAt all) (y ∷ ys)) (same : (f : X → ℕ) → sum_by f (x ∷ xs) ≡ sum_by f (y ∷ ys)) where
    first_same : x ≡ y
    first_same =
        let low = not_below x y xs ys same up' in
        let high = not_below y x ys xs (λ f. sym (same f)) up in
        sym (All-head (IsAt all) x xs at x) ∙ ap (λ k. get_or all k x) (omega (arith, low, high)) ∙ All-head (IsAt all) y ys at' x

    rest_same : (f : X → ℕ) → sum_by f xs ≡ sum_by f ys
    rest_same f =
        let both = sym (sum_by-cons f x xs) ∙ same f ∙ sum_by-cons f y ys in
        let first = ap f first_same in
        omega arith

  -- two lists are equal if the indices of each never decrease, and both have the same elements of `all`
  -- equally often
  one_list : (all xs ys : List X) → Rises xs → Rises ys → All (IsAt all) xs → All (IsAt all) ys
      → ((f : X → ℕ) → sum_by f xs ≡ sum_by f ys) → xs ≡ ys
  one_list all [] [] up up' at at' same = refl
  one_list all [] (y ∷ ys) up up' at at' same = absurd (let one = same (λ z. 1) ∙ sum_by-cons (λ z. 1) y ys in omega arith)
  one_list all (x ∷ xs) [] up up' at at' same = absurd (let one = sym (same (λ z. 1)) ∙ sum_by-cons (λ z. 1) x xs in omega arith)
  one_list all (x ∷ xs) (y ∷ ys) up up' at at' same =
      ap₂ (λ z zs. z ∷ zs) (first_same all x y xs ys up up' at at' same)
      (one_list all xs ys (rises_tail x xs up) (rises_tail y ys up') (All-tail (IsAt all) x xs at) (All-tail (IsAt all) y ys at')
      (rest_same all x y xs ys up up' at at' same))

  sum_by-passing : (p : X → Bool) (f : X → ℕ) (xs : List X) → sum_by f (filter p xs) ≡ sum_by (λ x. cond (p x) (f x) 0) xs
  sum_by-passing p f [] = refl
  sum_by-passing p f (x ∷ xs) =
      grind (arith, sum_by-passing p f xs, sum_by-cons f x (filter p xs), sum_by-cons (λ x. cond (p x) (f x) 0) x xs)

  pub same_order : (p : X → Bool) (xs ys : List X) → AreIndexed xs → IsPermutation xs ys
      → AllPairs (λ x y. p x ≡ true → p y ≡ true → index x ≤ index y) ys → filter p ys ≡ filter p xs
  same_order p xs ys indexed moved up =
      let low = λ (x y : X). index x ≤ index y in
      let if_passing = λ (x y : X). p x ≡ true → p y ≡ true → index x ≤ index y in
      let at = are_at xs indexed in
      let matches = filter_passes p ys in
      let rises : Rises xs =
      λ i j d before inside. rw (indexed i d (omega arith), indexed j d inside) (omega arith) in
      let passing = AllPairs-filter if_passing p ys up in
      one_list xs (filter p ys) (filter p xs)
      (λ i j d before inside. passing i j d before inside (matches i d (omega arith)) (matches j d inside))
      (AllPairs-filter low p xs rises) (All-filter p (IsAt xs) ys (All-permutation (IsAt xs) xs ys moved at))
      (All-filter p (IsAt xs) xs at)
      (λ f. sum_by-passing p f ys ∙ sum_by-IsPermutation (λ x. cond (p x) (f x) 0) xs ys moved ∙ sym (sum_by-passing p f xs))

-- The items that are left of a text, without the count that bounds the recursion.
use Rattle.std.proofs.Common.{◌≡◌, ℕ, zero, suc, ◌<◌, ◌≤◌, ◌*◌, Bool, true, false, List, [], ◌∷◌, length, refl, ap, ◌∙◌, ◌&&◌, ◌==◌}
use Rattle.std.proofs.Common.{Option, Some, None, arith, if◌then◌else◌}
use Rattle.std.specs.Prelude.{option_map}
use Rattle.semver_texts.specs.Texts.{Text, begins_with}
use Rattle.semver_texts.specs.declared.grammar.Grammar.{Grammar}
use Rattle.semver_texts.specs.declared.grammar.Grammar.TheVariants.{Cargo}
use Rattle.semver_ranges.specs.CargoGrammar.{is_cargo}
use Rattle.semver_ranges.specs.TextItems.{FoundWord, Item, empty_range, two_bars}
use Rattle.semver_ranges.specs.Steps.FoundItems.{comparator, may_come, range_item, with_comparator}
use Rattle.semver_texts.proofs.Lists.{by_test}
use Rattle.semver_ranges.specs.RangeTree.{RangeTree, Simple, after_operator, is_blank}
use Rattle.semver_ranges.specs.Steps.FoundItems.{size_at}
use Rattle.semver_ranges.specs.Steps.FoundItems.{after_item, begins_after, item, items_left, some_items}
use Rattle.semver_ranges.specs.Steps.FoundItems.{upper_word, with_simple, with_upper, word_at}
use Rattle.semver_ranges.specs.Steps.Reading.{after_bars, after_blanks, ends_range, operator_at, right_side, simple, with_right}
use Rattle.semver_ranges.proofs.ReadingSteps.{back_shorter, shorter_bars, shorter_right, shorter_simple}

-- if an item was found, what is left after it is smaller than `m`
abbrev IsSmaller : ℕ → Option (Item × Text) → Type 0
IsSmaller m None = Unit {0}
IsSmaller m (Some found) = size_at (begins_after found.0) found.1 < m

-- a comparator that was found has at least one byte
found_shorter : (is_first : Bool) (t : Text) (o : Option (Simple × Text)) (w : Option FoundWord) (x : Item) (u : Text)
    → simple Cargo t ≡ o → with_comparator is_first t o w ≡ Some (x, u) → (length u < length t) × (begins_after x ≡ false)
found_shorter is_first t None w x u e f = cc
found_shorter is_first t (Some found) None x u e f = cc
found_shorter is_first t (Some (s, v)) (Some w) x u e f =
    let less = shorter_simple Cargo t v s e in
    by_test (may_come is_first t s v)
    (λ y. let same = rw y at f in grind (arith, less))
    (λ n. let no : None ≡ Some (x, u) = rw n at f in cc)

pub comparator_shorter : (is_first : Bool) (t : Text) (x : Item) (u : Text) → comparator is_first t ≡ Some (x, u)
    → (length u < length t) × (begins_after x ≡ false)
comparator_shorter true t x u e = found_shorter true t _ _ x u refl e
comparator_shorter false [] x u e = cc
comparator_shorter false (b ∷ t) x u e = by_test (b == 44)
    (λ y. let less = found_shorter false (after_blanks Cargo t) _ _ x u refl (rw y at e) in
    let short = back_shorter (is_blank Cargo) t in
    (omega (arith, less.0, short), less.1))
    (λ n. let no : None ≡ Some (x, u) = rw n at e in cc)

comparator_smaller : (is_first : Bool) (t : Text) → IsSmaller (size_at is_first t) (comparator is_first t)
comparator_smaller is_first t = by (comparator is_first t) refl where
  by : (o : Option (Item × Text)) → comparator is_first t ≡ o → IsSmaller (size_at is_first t) o
  by None e = tt
  by (Some (x, u)) e =
      let less = comparator_shorter is_first t x u e in
      rw less.1 (omega (arith, less.0))

module _ (d : Grammar) where
  bars_smaller : (t : Text) (o : Option Text) → after_bars t ≡ o
      → IsSmaller (size_at false t) (option_map (λ u. (two_bars, after_blanks d u)) o)
  bars_smaller t None e = tt
  bars_smaller t (Some u) e =
      let less = shorter_bars t u e in
      let short = back_shorter (is_blank d) u in
      omega (arith, less, short)

  upper_smaller : (m : ℕ) (t u : Text) (v : FoundWord) (s : Simple) (o : Option (RangeTree × Text)) (w : Option FoundWord)
      → with_right s (right_side d u) ≡ o → 2 * length u < m → IsSmaller m (with_upper t v o w)
  upper_smaller m t u v s None w e h = tt
  upper_smaller m t u v s (Some found) None e h = tt
  upper_smaller m t u v s (Some (r, rest)) (Some w) e h = let short = shorter_right d s u rest r e in omega (arith, h, short)

  simple_smaller : (begins : Bool) (t : Text) (o : Option (Simple × Text)) (w : Option FoundWord) → simple d t ≡ o
      → IsSmaller (size_at begins t) (with_simple d begins t o w)
  simple_smaller begins t None w e = tt
  simple_smaller begins t (Some found) None e = tt
  simple_smaller begins t (Some (s, u)) (Some w) e =
      let less = shorter_simple d t u s e in
      by_test (begins && begins_with 45 u)
      (λ y. rw y (upper_smaller (size_at begins t) t u w s _ (upper_word d u) refl (omega (arith, less))))
      (λ n. rw n (omega (arith, less)))

  range_smaller : (begins : Bool) (t : Text) → IsSmaller (size_at begins t) (range_item d begins t)
  range_smaller begins t = by_test (ends_range t)
      (λ y. rw y (at_end begins))
      (λ n. rw n (simple_smaller begins t (simple d t) (word_at d (after_operator (operator_at d t).0) (operator_at d t).1) refl))
    where
      at_end : (begins : Bool)
          → IsSmaller (size_at begins t) (if begins then Some (empty_range, t) else option_map (λ u. (two_bars, after_blanks d u)) (after_bars t))
      at_end true = omega arith
      at_end false = bars_smaller t (after_bars t) refl

  item_smaller : (begins : Bool) (t : Text) → IsSmaller (size_at begins t) (item d begins t)
  item_smaller begins t = by_test (is_cargo d)
      (λ y. rw y (comparator_smaller begins t))
      (λ n. rw n (range_smaller begins t))

  nothing_next : item d false [] ≡ None
  nothing_next = by_test (is_cargo d) (λ y. rw y refl) (λ n. rw n refl)

  same_others : (f g : Bool → Text → List Item) (m : ℕ) (o : Option (Item × Text))
      → ((begins : Bool) (t : Text) → size_at begins t < m → f begins t ≡ g begins t)
      → IsSmaller m o → after_item f o ≡ after_item g o
  same_others f g m None same h = refl
  same_others f g m (Some found) same h = ap (λ xs. found.0 ∷ xs) (same (begins_after found.0) found.1 h)

  -- any count that is at least the size of the text gives the same items
  same_count : (m m' : ℕ) (begins : Bool) (t : Text) → size_at begins t ≤ m → size_at begins t ≤ m'
      → some_items d m begins t ≡ some_items d m' begins t
  same_count zero zero begins t h h' = refl
  same_count zero (suc m') true t h h' = absurd (omega (arith, h))
  same_count zero (suc m') false [] h h' = rw nothing_next refl
  same_count zero (suc m') false (b ∷ t) h h' = absurd (omega (arith, h))
  same_count (suc m) zero true t h h' = absurd (omega (arith, h'))
  same_count (suc m) zero false [] h h' = rw nothing_next refl
  same_count (suc m) zero false (b ∷ t) h h' = absurd (omega (arith, h'))
  same_count (suc m) (suc m') begins t h h' = same_others (some_items d m) (some_items d m') (size_at begins t) (item d begins t)
      (λ b t' less. same_count m m' b t' (omega (arith, h, less)) (omega (arith, h', less)))
      (item_smaller begins t)

  -- the items that are left are the next one and those after it
  pub left_next : (begins : Bool) (t : Text) (o : Option (Item × Text)) → item d begins t ≡ o
      → items_left d begins t ≡ after_item (items_left d) o
  left_next begins t o e = same_count (size_at begins t) (suc (size_at begins t)) begins t (omega arith) (omega arith)
      ∙ same_others (some_items d (size_at begins t)) (items_left d) (size_at begins t) (item d begins t)
      (λ b t' less. same_count (size_at begins t) (size_at b t') b t' (omega (arith, less)) (omega arith))
      (item_smaller begins t)
      ∙ ap (after_item (items_left d)) e

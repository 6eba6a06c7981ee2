-- Reading the comparators of a requirement one after the other gives those of its tree.
use Rattle.std.proofs.Common.{◌≡◌, ℕ, zero, suc, ◌≤◌, Bool, true, false, not, ◌&&◌, ◌||◌, ◌==◌, ◌⊎◌, if◌then◌else◌, inl, inr, List, [], ◌∷◌, ◌++◌, length, refl, sym, ap, ◌∙◌}
use Rattle.std.proofs.Common.{Option, Some, None, map, subst, arith, append_assoc, append-nil}
use Rattle.std.proofs.lemmas.Bool.{eqb-true}
use Rattle.std.proofs.Math.Bool.{and-false, or-true}
use Rattle.std.specs.Prelude.{option_map, nat_lt}
use Rattle.std.specs.List.{list_any}
use Rattle.semver_texts.specs.Texts.{Text, is_empty}
use Rattle.std.proofs.lemmas.Bool.Decides.{nat_tests}
use Rattle.semver_texts.proofs.Lists.{by_test}
use Rattle.semver_texts.specs.declared.grammar.Grammar.TheVariants as grammar
use Rattle.semver_ranges.specs.Partials.{states_nothing}
use Rattle.semver_ranges.specs.RangeTree.{Simple, SetTree, simples, is_blank}
use Rattle.semver_ranges.specs.CargoGrammar.{as_read, SpellsComparator, SpellsComparators, SpellsRequirement, stands_alone}
use Rattle.semver_ranges.specs.TextItems.{Item, empty_range, one_term, two_bars}
use Rattle.semver_ranges.specs.Steps.FoundItems.{comparator, comparator_at, items_left, simple_of}
use Rattle.semver_ranges.specs.Steps.Reading.{after_blanks, front}
use Rattle.semver_ranges.specs.Steps.RangeEvents.{before_others, comparators_left, events_of, in_front, next_range, set_events}
use Rattle.semver_ranges.specs.Steps.RangeEvents.{some_comparators, yielded}
use Rattle.semver_ranges.proofs.ComparatorSteps.{one_left}
use Rattle.semver_ranges.proofs.ItemSteps.{left_next}
use Rattle.semver_ranges.proofs.ReadingPieces.{front-back, front_all}
use Rattle.semver_texts.specs.declared.grammar.Grammar.{Grammar}
use Rattle.semver_ranges.specs.CargoGrammar.{is_cargo}
use Rattle.semver_ranges.specs.Steps.Reading.{read}
use Rattle.semver_ranges.specs.Steps.RangeEvents.{events}
use Rattle.semver_ranges.proofs.EventSteps.{begin_left}
use Rattle.semver_ranges.specs.DialectTable.{grammar_of}
use Rattle.semver_ranges.specs.declared.dialect.Dialect.{Dialect}
use Rattle.semver_ranges.specs.declared.dialect.Dialect.TheVariants.{Cargo, Npm, CrateCargo, CrateNpm}
use Rattle.tool_ranges.specs.Steps.TextEvents.{commas, events_in, has_few_commas, may_be_a_range, ranges_of, read_as, requirement}
use Rattle.tool_ranges.specs.Steps.TextEvents.{text_events, tree_of}
use Rattle.tool_ranges.specs.SpelledItems.{comparator_term, comparators_items}
use Rattle.tool_ranges.proofs.Commas.{comparators_commas}
use Rattle.tool_ranges.proofs.ComparatorReading.{blanks_before, comparator_read, comparator_sound}

-- ---- the tree that is read spells the text

abbrev Reads : Bool → Text → List Simple → Type 0
Reads is_first t tree = SpellsComparators tree t
    × (is_first ≡ false → list_any (λ s. states_nothing s.partial) tree ≡ false) × (is_first ≡ true → stands_alone tree ≡ true)

stands_so : (tree : List Simple) → list_any (λ s. states_nothing s.partial) tree ≡ false → stands_alone tree ≡ true
stands_so [] e = refl
stands_so (s ∷ []) e = refl
stands_so (s ∷ next ∷ tree) e = ap not e

goes_on : (s : Simple) (front t u : Text) (left : List Simple) → SpellsComparator s front → t ≡ front ++ (44 ∷ u)
    → SpellsComparators left u → SpellsComparators (s ∷ left) t
goes_on s front t u [] spelled text h = absurd h
goes_on s front t u (next ∷ others) spelled text h = (front, u, spelled, h, text)

-- a comparator that may not be the only one states a number
states_one : (b : Bool) → (not b || false) ≡ true → b ≡ false
states_one true e = cc
states_one false e = refl

-- the next comparator of what is left, `r`, is at the beginning of the text t, after any blanks
abbrev IsNextOf : Bool → Text → Text → Type 0
IsNextOf is_first t r = (comparator is_first r ≡ comparator_at is_first (after_blanks grammar.Cargo t)) × ((not is_first && is_empty r) ≡ false)

-- the comparators after one that was read
others_read : (n : ℕ)
    → ((is_first : Bool) (t r : Text) (tree : List Simple) → IsNextOf is_first t r → some_comparators n is_first r ≡ Some tree → Reads is_first t tree)
    → (u : Text) (left : List Simple) → some_comparators n false u ≡ Some left
    → ((u ≡ []) × (left ≡ [])) ⊎ ((v : Text) × (u ≡ 44 ∷ v) × Reads false v left)
others_read zero sound u left e = cc
others_read (suc n) sound [] left e = inl (refl, let same : [] ≡ left = cc in sym same)
others_read (suc n) sound (b ∷ u) left e = by_test (b == 44)
    (λ y. inr (u, ap (λ c. c ∷ u) (eqb-true b 44 y), sound false u (b ∷ u) left (rw y refl, refl) e))
    (λ m. let no : None ≡ Some left = rw m at e in cc)

-- the comparators from the next one on, if it was read as `o`
found_read : (n : ℕ) (is_first : Bool) (t : Text) (tree : List Simple)
    → ((u : Text) (left : List Simple) → some_comparators n false u ≡ Some left
    → ((u ≡ []) × (left ≡ [])) ⊎ ((v : Text) × (u ≡ 44 ∷ v) × Reads false v left))
    → (o : Option (Item × Text)) → comparator_at is_first (after_blanks grammar.Cargo t) ≡ o
    → before_others (some_comparators n false) o ≡ Some tree → Reads is_first t tree
found_read n is_first t tree others None here e = cc
found_read n is_first t tree others (Some (empty_range, u)) here e = cc
found_read n is_first t tree others (Some (two_bars, u)) here e = cc
found_read n is_first t tree others (Some (one_term x, u)) here e = by (some_comparators n false u) refl e where
  s : Simple
  s = simple_of x

  before : Text
  before = front (is_blank grammar.Cargo) t

  by : (q : Option (List Simple)) → some_comparators n false u ≡ q → option_map (λ ss. s ∷ ss) q ≡ Some tree → Reads is_first t tree
  by None is e = cc
  by (Some left) is e =
      let tree_is : s ∷ left ≡ tree = cc in
      let c = comparator_sound is_first (after_blanks grammar.Cargo t) x u here in
      let spelled : SpellsComparator s (before ++ c.front) = blanks_before s before c.front (front_all (is_blank grammar.Cargo) t) c.spelled in
      let whole : t ≡ (before ++ c.front) ++ u = front-back (is_blank grammar.Cargo) t ∙ ap (λ y. before ++ y) c.whole ∙ sym (append_assoc before c.front u) in
      subst (Reads is_first t) tree_is (elim (others u left is) [
        | inl (none, last) ↦
            let all : t ≡ before ++ c.front = whole ∙ ap (λ y. (before ++ c.front) ++ y) none ∙ append-nil _ in
            let alone : is_first ≡ false → states_nothing s.partial ≡ false = λ n. states_one _ (rw n at c.alone) in
            rw last (subst (SpellsComparator s) (sym all) spelled, λ n. rw (alone n) refl, λ _. refl)
        | inr (v, comma, rest) ↦
            let alone : states_nothing s.partial ≡ false = states_one _ (rw (comma, and-false is_first) at c.alone) in
            let none : list_any (λ s. states_nothing s.partial) (s ∷ left) ≡ false = rw alone (rest.1 refl) in (
              goes_on s (before ++ c.front) t v left spelled (whole ∙ ap (λ y. (before ++ c.front) ++ y) comma) rest.0,
              λ _. none,
              λ _. stands_so (s ∷ left) none,
            )
      ])

comparators_sound : (n : ℕ) (is_first : Bool) (t r : Text) (tree : List Simple) → IsNextOf is_first t r
    → some_comparators n is_first r ≡ Some tree → Reads is_first t tree
comparators_sound zero is_first t r tree next e = cc
comparators_sound (suc n) is_first t r tree (here, some) e =
    found_read n is_first t tree (others_read n (comparators_sound n)) (comparator_at is_first (after_blanks grammar.Cargo t)) refl
    (rw (some, here) at e)

-- ---- a tree that spells the text is read

stands_first : (s next : Simple) (others : List Simple) → stands_alone (s ∷ next ∷ others) ≡ true
    → list_any (λ s. states_nothing s.partial) (s ∷ next ∷ others) ≡ false
stands_first s next others e = by_test (list_any (λ s. states_nothing s.partial) (s ∷ next ∷ others))
    (λ y. let no : false ≡ true = rw y at e in cc)
    (λ n. n)

pub comparators_complete : (is_first : Bool) (t r : Text) (tree : List Simple) (spelled : SpellsComparators tree t) → IsNextOf is_first t r
    → (is_first ≡ false → list_any (λ s. states_nothing s.partial) tree ≡ false) → stands_alone tree ≡ true
    → (comparators_left is_first r ≡ Some tree) × (items_left grammar.Cargo is_first r ≡ comparators_items tree t spelled)
comparators_complete is_first t r [] h next all alone = absurd h
comparators_complete is_first t r (s ∷ []) h (here, some) all alone =
    let may : (not (states_nothing s.partial) || (is_first && true)) ≡ true = by_test is_first
    (λ y. rw y (or-true _))
    (λ n. by_test (states_nothing s.partial) (λ z. let no : true ≡ false = rw z at (all n) in cc) (λ m. rw m refl)) in
    let found = here ∙ comparator_read is_first s t [] t h (sym (append-nil t)) refl refl may in
    let x = comparator_term s t [] h in
    (one_left is_first r x [] found some, left_next grammar.Cargo is_first r (Some (one_term x, [])) found)
comparators_complete is_first t r (s ∷ next ∷ others) (front, back, h, more, text) (here, some) all alone =
    let none = stands_first s next others alone in
    by_test (states_nothing s.partial)
    (λ y. let no : true ≡ false = rw y at none in cc)
    (λ n. let rest : list_any (λ s. states_nothing s.partial) (next ∷ others) ≡ false = rw n at none in
    let later = comparators_complete false back (44 ∷ back) (next ∷ others) more (refl, refl) (λ _. rest) (stands_so (next ∷ others) rest) in
    let found = here ∙ comparator_read is_first s front (44 ∷ back) t h text refl refl (rw n refl) in
    let x = comparator_term s front (44 ∷ back) h in (
      one_left is_first r x (44 ∷ back) found some ∙ ap (option_map (λ ss. s ∷ ss)) later.0,
      left_next grammar.Cargo is_first r (Some (one_term x, 44 ∷ back)) found ∙ ap (λ xs. one_term x ∷ xs) later.1,
    ))

-- ---- the tree of a requirement

few_commas : (n : ℕ) → nat_lt n 32 ≡ true → suc n ≤ 32
few_commas n e = grind (arith, nat_tests)

few_comparators : (n : ℕ) → suc n ≤ 32 → nat_lt n 32 ≡ true
few_comparators n e = grind (arith, nat_tests)

pub requirement_sound : (t : Text) (tree : SetTree) → (if has_few_commas t then requirement t else None) ≡ Some tree → SpellsRequirement tree t
requirement_sound t tree e = by_test (has_few_commas t)
    (λ y. by y (comparators_left true (after_blanks grammar.Cargo t)) refl (rw y at e))
    (λ n. let no : None ≡ Some tree = rw n at e in cc)
  where
    by : has_few_commas t ≡ true → (o : Option (List Simple)) → comparators_left true (after_blanks grammar.Cargo t) ≡ o
        → option_map tree_of o ≡ Some tree → SpellsRequirement tree t
    by few None is e = cc
    by few (Some ss) is e = of ss (comparators_sound (suc (length (after_blanks grammar.Cargo t))) true t (after_blanks grammar.Cargo t) ss (refl, refl) is) e where
      of : (ss : List Simple) → Reads true t ss → Some (tree_of ss) ≡ Some tree → SpellsRequirement tree t
      of [] r e = absurd r.0
      of (first ∷ others) r e =
          let whole : simples first others ∷ [] ≡ tree = cc in
          subst (λ tree. SpellsRequirement tree t) whole (record {
            comparators = r.0;
            alone = r.2 refl;
            few = subst (λ n. n ≤ 32) (comparators_commas (first ∷ others) t r.0) (few_commas (commas t) few);
          })

pub requirement_complete : (t : Text) (tree : SetTree) → SpellsRequirement tree t
    → (if has_few_commas t then requirement t else None) ≡ Some tree
requirement_complete t (simples first others ∷ []) h =
    let few : has_few_commas t ≡ true =
    few_comparators (commas t) (subst (λ n. n ≤ 32) (sym (comparators_commas (first ∷ others) t h.comparators)) h.few) in
    rw few (ap (option_map tree_of)
    (comparators_complete true t (after_blanks grammar.Cargo t) (first ∷ others) h.comparators (refl, refl) (λ e. cc) h.alone).0)
requirement_complete t _ h = absurd h.comparators

-- ---- events of ranges

pub requirement_events : (o : Option (List Simple))
    → option_map (λ tree. events_in (ranges_of Cargo tree)) (option_map tree_of o) ≡ option_map (λ ss. in_front (map as_read ss) []) o
requirement_events None = refl
requirement_events (Some []) = refl
requirement_events (Some (first ∷ others)) = refl

pub same_ranges : (tree : SetTree) → events_of tree ≡ events_in (map yielded tree)
same_ranges [] = refl
same_ranges (r ∷ []) = refl
same_ranges (r ∷ next ∷ others) = ap (λ es. in_front (yielded r) (next_range ∷ es)) (same_ranges (next ∷ others))

pub same_events : (o : Option SetTree) → set_events o ≡ option_map (λ tree. events_in (map yielded tree)) o
same_events None = refl
same_events (Some tree) = ap Some (same_ranges tree)

-- the events of a text that may be a range
module _ (t : Text) where
  ranges_as : (g : Grammar) → is_cargo g ≡ false → events g t ≡ option_map (λ tree. events_in (map yielded tree)) (read g t)
  ranges_as g other = rw other (sym (begin_left g t (after_blanks g t) refl)) ∙ same_events (read g t)

  pub events_as : (d : Dialect) → may_be_a_range d t ≡ true → events (grammar_of d) t ≡ text_events d t
  events_as Cargo may = rw may (sym (requirement_events (comparators_left true (after_blanks grammar.Cargo t))))
  events_as Npm may = rw may (ranges_as grammar.Npm refl)
  events_as CrateCargo may = ranges_as grammar.Crate refl
  events_as CrateNpm may = ranges_as grammar.Crate refl

pub not_read : (t : Text) (d : Dialect) → may_be_a_range d t ≡ false → read_as d t ≡ None
not_read t Cargo n = rw n refl
not_read t Npm n = rw n refl
not_read t _ n = cc

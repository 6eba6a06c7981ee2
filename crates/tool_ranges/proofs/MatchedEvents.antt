-- The progress of matching a version with a range text, after each event of the text.
use Rattle.std.proofs.Common.{◌≡◌, Bool, true, false, ◌&&◌, ◌||◌, if◌then◌else◌, List, [], ◌∷◌, map, Option, Some, None, refl, sym, ap, ◌∙◌}
use Rattle.std.proofs.Math.Bool.{and-true, and-false, or-false}
use Rattle.std.specs.Prelude.{option_map}
use Rattle.std.specs.List.{list_all, list_any}
use Rattle.semver_texts.specs.Texts.{Text}
use Rattle.semver_texts.specs.Versions.{PlainVersion}
use Rattle.semver_texts.proofs.Lists.{by_test}
use Rattle.semver_ranges.specs.declared.range_set.RangeError.TheVariants.{NumberTooLarge}
use Rattle.semver_ranges.specs.RangeTree.{Simple, SetTree, simples}
use Rattle.semver_ranges.specs.RewritingTable.{term_fits_by}
use Rattle.semver_ranges.specs.StatedPreReleases.{states_pre_release_at}
use Rattle.semver_ranges.specs.Terms.{of_simple}
use Rattle.semver_ranges.specs.Steps.RangeEvents.{Event, one_simple, next_range, put, in_front, event_fits, yielded}
use Rattle.semver_ranges.proofs.EventLists.{set_fits}
use Rattle.semver_ranges.specs.declared.dialect.Dialect.{Dialect}
use Rattle.semver_ranges.specs.declared.dialect.Dialect.TheVariants.{Cargo, Npm}
use Rattle.tool_ranges.specs.declared.matching.Progress.{Progress}
use Rattle.semver_ranges.specs.CargoGrammar.{as_read}
use Rattle.semver_ranges.specs.CargoGrammar.{comparators_of}
use Rattle.tool_ranges.specs.Dialects.{SpellsAs, fits_as}
use Rattle.tool_ranges.specs.NpmMeaning.{matches_everything}
use Rattle.tool_ranges.specs.Steps.TextEvents.{events_in, ranges_of, read_as, text_events}
use Rattle.tool_ranges.specs.Steps.Matching.{Says, after, begun, counts, ended, range_every, range_met, taken, term_met}
use Rattle.semver_ranges.specs.Sides.{term_fits}
use Rattle.tool_ranges.specs.Steps.Reading.{IsRead, IsRefusedAs}
use Rattle.tool_ranges.proofs.Comparators.{same_ranges}
use Rattle.tool_ranges.proofs.ReadTrees.{sound_as}
use Rattle.tool_ranges.proofs.PrintableSets.{term_table}

-- ---- whether the numbers of the events fit

comparators_fit : (ss : List Simple) → list_all (event_fits (term_fits Cargo)) (in_front (map as_read ss) [])
    ≡ list_all (term_fits_by (λ s. term_fits Cargo (as_read s))) (map of_simple ss)
comparators_fit [] = refl
comparators_fit (s ∷ ss) = ap (λ b. term_fits Cargo (as_read s) && b) (comparators_fit ss)

pub ranges_fit : (d : Dialect) (t : Text) (tree : SetTree) → read_as d t ≡ Some tree
    → list_all (event_fits (term_fits d)) (events_in (ranges_of d tree)) ≡ fits_as d tree
ranges_fit Cargo t (simples first others ∷ []) is = comparators_fit (first ∷ others) ∙ sym (and-true _)
ranges_fit Cargo t tree is = absurd (sound_as Cargo t tree is).comparators
ranges_fit d t tree is = ap (list_all (event_fits (term_fits d))) (sym (same_ranges tree)) ∙ set_fits (term_table d) tree

-- a text has at least one range
abbrev pub HasSome : List (List Simple) → Type 0
HasSome ranges = (first : List Simple) × (others : List (List Simple)) × (ranges ≡ first ∷ others)

pub some_ranges : (d : Dialect) (t : Text) (tree : SetTree) → SpellsAs d tree t → HasSome (ranges_of d tree)
some_ranges Cargo t tree h = (map as_read (comparators_of tree), [], refl)
some_ranges Npm t [] h = absurd h.spelled
some_ranges d t [] h = absurd h
some_ranges d t (r ∷ others) h = (yielded r, map (yielded) others, refl)

module _ (d : Dialect) (all : Bool) (v : PlainVersion) where
  -- the progress at the end, from the progress before the events: `None` if the text is not a range,
  -- and `Some None` if a number doesn't fit
  abbrev pub told : Bool → Progress → Option (List Event) → Option (Option Progress)
  told fit t None = None
  told fit t (Some es) =
      Some (if fit && list_all (event_fits (term_fits d)) es then Some (ended (counts all v) (after d all v t es)) else None)

  one_more : (fit f : Bool) (t t' : Progress) (s : Simple) (left : Option (List Event)) → f ≡ term_fits d s
      → (term_fits d s ≡ true → t' ≡ taken d all v s t) → told fit t (put (one_simple s) left) ≡ told (fit && f) t' left
  one_more fit f t t' s None is same = refl
  one_more fit f t t' s (Some es) is same = by_test (term_fits d s)
      (λ y. rw (is, y, and-true fit, same y) refl)
      (λ n. rw (is, n, and-false fit) refl)

  pub term_more : (whole : Option (Option Progress)) (fit f : Bool) (t t' : Progress) (s : Simple) (o left : Option (List Event))
      → whole ≡ told fit t o → o ≡ put (one_simple s) left → f ≡ term_fits d s
      → (term_fits d s ≡ true → t' ≡ taken d all v s t) → whole ≡ told (fit && f) t' left
  term_more whole fit f t t' s o left so_far first is same = so_far ∙ ap (told fit t) first ∙ one_more fit f t t' s left is same

  -- ---- the events of ranges

  -- the progress after the terms of one range
  abbrev folded : Progress → List Simple → Progress
  folded t ss = record t {
    here = t.here && list_all (term_met d all v) ss;
    counts = t.counts || list_any (λ s. states_pre_release_at (of_simple s) v) ss;
    matches_all = t.matches_all && list_all (λ s. matches_everything (of_simple s)) ss;
  }

  and_assoc : (a b c : Bool) → ((a && b) && c) ≡ (a && (b && c))
  and_assoc true b c = refl
  and_assoc false b c = refl

  or_assoc : (a b c : Bool) → ((a || b) || c) ≡ (a || (b || c))
  or_assoc true b c = refl
  or_assoc false b c = refl

  front_after : (t : Progress) (ss : List Simple) (es : List Event)
      → after d all v t (in_front ss es) ≡ after d all v (folded t ss) es
  front_after t [] es = λ i. after d all v (record {
    here = sym (and-true t.here) i;
    counts = sym (or-false t.counts) i;
    matches_all = sym (and-true t.matches_all) i;
    met = t.met;
    matched_all = t.matched_all;
  }) es
  front_after t (s ∷ ss) es = front_after (taken d all v s t) ss es ∙ (λ i. after d all v (record {
    here = and_assoc t.here (term_met d all v s) (list_all (term_met d all v) ss) i;
    counts = or_assoc t.counts (states_pre_release_at (of_simple s) v)
        (list_any (λ (x : Simple). states_pre_release_at (of_simple x) v) ss) i;
    matches_all = and_assoc t.matches_all (matches_everything (of_simple s)) (list_all (λ (x : Simple). matches_everything (of_simple x)) ss) i;
    met = t.met;
    matched_all = t.matched_all;
  }) es)

  -- the progress at the beginning of a range
  abbrev fresh : Bool → Bool → Progress
  fresh met matched = record { here = true; counts = counts all v; matches_all = true; met = met; matched_all = matched }

  ranges_after : (ss : List Simple) (others : List (List Simple)) (met every : Bool)
      → ended (counts all v) (after d all v (fresh met every) (events_in (ss ∷ others)))
      ≡ fresh (met || list_any (range_met d all v) (ss ∷ others)) (every || list_any range_every (ss ∷ others))
  ranges_after ss [] met every =
      ap (ended (counts all v)) (front_after (fresh met every) ss [])
      ∙ (λ i. fresh (met || sym (or-false (range_met d all v ss)) i) (every || sym (or-false (range_every ss)) i))
  ranges_after ss (next ∷ others) met every =
      ap (ended (counts all v)) (front_after (fresh met every) ss (next_range ∷ events_in (next ∷ others)))
      ∙ ranges_after next others (met || range_met d all v ss) (every || range_every ss)
      ∙ (λ i. fresh (or_assoc met (range_met d all v ss) (list_any (range_met d all v) (next ∷ others)) i)
      (or_assoc every (range_every ss) (list_any range_every (next ∷ others)) i))

  -- the progress after the events of a tree says whether the version satisfies a range of the tree,
  -- and whether some range matches everything
  pub says_so : (t : Text) (tree : SetTree) → SpellsAs d tree t → (progress : Progress)
      → ended (counts all v) (after d all v (begun (counts all v)) (events_in (ranges_of d tree))) ≡ progress
      → Says d all v progress tree
  says_so t tree spelled progress same =
      let some = some_ranges d t tree spelled in
      let end = sym same ∙ ap (λ rs. ended (counts all v) (after d all v (begun (counts all v)) (events_in rs))) some.2
      ∙ ranges_after some.0 some.1 false false in (
        ap (λ (x : Progress). x.met) end ∙ ap (list_any (range_met d all v)) (sym some.2),
        ap (λ (x : Progress). x.matched_all) end ∙ ap (list_any range_every) (sym some.2),
      )

  -- ---- a whole text
  module _ (t : Text) where
    abbrev Told : Option (Option Progress) → Type 0
    Told o = told true (begun (counts all v)) (text_events d t) ≡ o

    pub large : Told (Some None) → IsRefusedAs d t NumberTooLarge
    large e = at (read_as d t) refl e where
      at : (o : Option SetTree) → read_as d t ≡ o
          → told true (begun (counts all v)) (option_map (λ tree. events_in (ranges_of d tree)) o) ≡ Some None
          → IsRefusedAs d t NumberTooLarge
      at None is e = cc
      at (Some tree) is e = by_test (fits_as d tree)
          (λ y. let fit = ranges_fit d t tree is ∙ y in
          let no : Some (Some _) ≡ Some None = rw fit at e in cc)
          (λ n. (tree, is, n))

    pub says : (progress : Progress) → Told (Some (Some progress)) → IsRead d t (Says d all v progress)
    says progress e = at (read_as d t) refl e where
      at : (o : Option SetTree) → read_as d t ≡ o
          → told true (begun (counts all v)) (option_map (λ tree. events_in (ranges_of d tree)) o) ≡ Some (Some progress)
          → IsRead d t (Says d all v progress)
      at None is e = cc
      at (Some tree) is e = by_test (fits_as d tree)
          (λ y. let fit = ranges_fit d t tree is ∙ y in
          let known : Some (Some (ended (counts all v) (after d all v (begun (counts all v)) (events_in (ranges_of d tree)))))
          ≡ Some (Some progress) = rw fit at e in
          let same : ended (counts all v) (after d all v (begun (counts all v)) (events_in (ranges_of d tree))) ≡ progress = cc in
          (tree, is, y, says_so t tree (sound_as d t tree is) progress same))
          (λ n. let fit = ranges_fit d t tree is ∙ n in
          let no : Some None ≡ Some (Some progress) = rw fit at e in cc)

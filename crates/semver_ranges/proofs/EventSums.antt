-- The invariants of the loops over the events of a text, and their results in terms of its tree.
use Rattle.std.proofs.Common.{◌≡◌, Bool, true, false, ◌&&◌, List, [], ◌∷◌, ◌++◌, Option, Some, None, refl, sym, ap, ◌∙◌, arith}
use Rattle.std.proofs.Common.{append-nil, append_assoc, Result, Ok, Err}
use Rattle.std.proofs.Math.Bool.{and-true}
use Rattle.std.specs.Prelude.{map}
use Rattle.std.proofs.lemmas.List.{map-append}
use Rattle.std.specs.List.{list_all, flat_map}
use Rattle.semver_texts.specs.declared.grammar.Grammar.{Grammar}
use Rattle.semver_ranges.specs.declared.range.Comparator.{Comparator}
use Rattle.semver_ranges.specs.declared.range.Compat.{Compat}
use Rattle.semver_ranges.specs.declared.range.Range.{Range}
use Rattle.semver_ranges.specs.declared.range_set.RangeSet.{RangeSet}
use Rattle.semver_ranges.specs.declared.range_set.RangeError.TheVariants.{NotARange, NumberTooLarge, OutOfMemory}
use Rattle.semver_ranges.specs.declared.range_set.RangeError.{RangeError}
use Rattle.semver_ranges.specs.RangeTree.{Simple, RangeTree, SetTree}
use Rattle.semver_texts.specs.Texts.{Text}
use Rattle.semver_ranges.specs.RewritingTable.{PlainComparator, PlainRange, PlainSet, fits_by}
use Rattle.semver_ranges.specs.Steps.Answers.{IsAnswerBy, IsAnswerOf}
use Rattle.semver_ranges.specs.Steps.Answers.{range_of_simples, ranges_by}
use Rattle.semver_ranges.specs.Steps.Reading.{read}
use Rattle.semver_ranges.specs.Steps.RangeEvents.{Event, one_simple, next_range, put, in_front, yielded, events_of}
use Rattle.semver_ranges.specs.Steps.RangeEvents.{event_fits, set_events}
use Rattle.semver_ranges.specs.RangeViews.{comparator_of, range_of}
use Rattle.semver_ranges.proofs.ReadingSound.{read_sound}
use Rattle.semver_ranges.proofs.Tables.{IsTable}
use Rattle.semver_ranges.proofs.EventLists.{set_fits}

-- whether the events that are left fit, and those before them did; `None` if the text isn't in the
-- grammar
abbrev pub fitted : (Simple → Bool) → Bool → Option (List Event) → Option Bool
fitted fits fit None = None
fitted fits fit (Some es) = Some (fit && list_all (event_fits fits) es)

-- after one more term, and after two bars
fit_simple : (fits : Simple → Bool) (fit : Bool) (s : Simple) (o : Option (List Event))
    → fitted fits fit (put (one_simple s) o) ≡ fitted fits (fit && fits s) o
fit_simple fits fit s None = refl
fit_simple fits fit s (Some es) = grind arith

pub fit_more : (fits : Simple → Bool) (whole : Option Bool) (fit here : Bool) (o left : Option (List Event)) (s : Simple)
    → whole ≡ fitted fits fit o → o ≡ put (one_simple s) left → here ≡ fits s → whole ≡ fitted fits (fit && here) left
fit_more fits whole fit here o left s so_far first is = rw (so_far, first, is) (fit_simple fits fit s left)

pub fit_bars : (fits : Simple → Bool) (fit : Bool) (o : Option (List Event)) → fitted fits fit (put next_range o) ≡ fitted fits fit o
fit_bars fits fit None = refl
fit_bars fits fit (Some es) = refl

-- at the end of a text
pub fit_end : (fits : Simple → Bool) (before fit : Bool) (o : Option (List Event)) → fitted fits before o ≡ fitted fits fit (Some [])
    → (es : List Event) × (o ≡ Some es) × ((before && list_all (event_fits fits) es) ≡ fit)
fit_end fits before fit None e = cc
fit_end fits before fit (Some es) e =
    (es, refl, let same : (before && list_all (event_fits fits) es) ≡ (fit && true) = cc in same ∙ and-true fit)

-- if the rest of a text isn't in the grammar
pub fit_none : (fits : Simple → Bool) (before : Bool) (o : Option (List Event)) → fitted fits before o ≡ None → o ≡ None
fit_none fits before None e = refl
fit_none fits before (Some es) e = cc

-- the ranges of a set, from its events
module _ (written : Simple → List PlainComparator) (mode : Compat) where
  abbrev made_by : RangeTree → PlainRange
  made_by r = range_of_simples written mode (yielded r)

  pub front_made : (ss : List Simple) (cs : List PlainComparator) (es : List Event)
      → ranges_by written mode cs (in_front ss es) ≡ ranges_by written mode (cs ++ flat_map written ss) es
  front_made [] cs es = rw append-nil refl
  front_made (s ∷ ss) cs es = front_made ss (cs ++ written s) es ∙ rw append_assoc refl

  set_made : (r : RangeTree) (others : SetTree) → ranges_by written mode [] (events_of (r ∷ others)) ≡ map made_by (r ∷ others)
  set_made r [] = front_made (yielded r) [] []
  set_made r (next ∷ others) = front_made (yielded r) [] _ ∙ ap (λ l. made_by r ∷ l) (set_made next others)

  -- the end of a range, and the end of a text
  module _ (old new : List Range) (set : List Comparator) (r : Range) (more : new ≡ old ++ r ∷ [])
      (is : range_of r ≡ record { comparators = map comparator_of set; compat = mode }) where
    with_range : map range_of new ≡ map range_of old ++ record { comparators = map comparator_of set; compat = mode } ∷ []
    with_range = ap (map range_of) more ∙ map-append range_of old (r ∷ []) ∙ ap (λ x. map range_of old ++ x ∷ []) is

    pub range_ended : (fresh : List Comparator) (left others : List Event) → fresh ≡ [] → left ≡ next_range ∷ others
        → map range_of old ++ ranges_by written mode (map comparator_of set) left
        ≡ map range_of new ++ ranges_by written mode (map comparator_of fresh) others
    range_ended fresh left others none e =
        ap (λ es. map range_of old ++ ranges_by written mode (map comparator_of set) es) e
        ∙ sym (append_assoc (map range_of old) (record { comparators = map comparator_of set; compat = mode } ∷ []) (ranges_by written mode [] others))
        ∙ (λ i. sym with_range i ++ ranges_by written mode (map comparator_of (sym none i)) others)

    pub text_ended : (left : List Event) → left ≡ []
        → map range_of new ≡ map range_of old ++ ranges_by written mode (map comparator_of set) left
    text_ended left none = with_range ∙ ap (λ es. map range_of old ++ ranges_by written mode (map comparator_of set) es) (sym none)

  -- a result that is possible for the events of a text is possible for its tree
  module _ {fit : Simple → Bool} {listed : Simple → List PlainComparator} (table : IsTable fit listed) where
    tree_fits : (tree : SetTree) (es : List Event) (b : Bool) → Some (events_of tree) ≡ Some es → list_all (event_fits fit) es ≡ b
        → fits_by fit tree ≡ b
    tree_fits tree es b e f = let same : es ≡ events_of tree = cc in sym (set_fits table tree) ∙ rw same at f

    pub answered_by : (made : SetTree → PlainSet) → ((tree : SetTree) → record { ranges = map made_by tree; compat = mode } ≡ made tree)
        → (d : Grammar) (t : Text) (o : Option SetTree) (r : Result RangeSet RangeError) → read d t ≡ o
        → IsAnswerBy (set_events o) fit written mode r → IsAnswerOf o fit made r
    answered_by made same d t None (Ok set) is (es, e, fits, has) = cc
    answered_by made same d t None (Err NotARange) is e = refl
    answered_by made same d t None (Err NumberTooLarge) is (es, e, fits) = cc
    answered_by made same d t None (Err OutOfMemory) is (es, e, fits) = cc
    answered_by made same d t (Some []) r is h = absurd (read_sound d t [] is)
    answered_by made same d t (Some (x ∷ others)) (Ok set) is (es, e, fits, has) =
        let same_events : es ≡ events_of (x ∷ others) = cc in (
          x ∷ others,
          refl,
          tree_fits (x ∷ others) es true e fits,
          has ∙ rw (same_events, set_made x others) (same (x ∷ others)),
        )
    answered_by made same d t (Some (x ∷ others)) (Err NotARange) is e = cc
    answered_by made same d t (Some (x ∷ others)) (Err NumberTooLarge) is (es, e, fits) =
        (x ∷ others, refl, tree_fits (x ∷ others) es false e fits)
    answered_by made same d t (Some (x ∷ others)) (Err OutOfMemory) is (es, e, fits) =
        (x ∷ others, refl, tree_fits (x ∷ others) es true e fits)

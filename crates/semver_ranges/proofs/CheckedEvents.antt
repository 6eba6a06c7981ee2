-- Whether the numbers of all terms fit, found from the events of a text, of which the first is a
-- term.
use Rattle.std.proofs.Common.{◌≡◌, Bool, true, false, ◌&&◌, Option, Some, None, List, [], ◌∷◌, map, refl, ap, sym, ◌∙◌, ℕ, subst}
use Rattle.std.specs.List.{list_all}
use Rattle.std.specs.Prelude.{Err, Ok, option_map}
use Rattle.semver_texts.proofs.Lists.{by_test}
use Rattle.semver_texts.specs.Texts.{Text}
use Rattle.semver_texts.specs.declared.grammar.Grammar.{Grammar}
use Rattle.semver_texts.specs.declared.grammar.Grammar.TheVariants as grammar
use Rattle.semver_ranges.specs.declared.dialect.Dialect.{Dialect}
use Rattle.semver_ranges.specs.declared.events.Event as read
use Rattle.semver_ranges.specs.declared.events.Events.{Events}
use Rattle.semver_ranges.specs.declared.range_set.RangeError.{RangeError}
use Rattle.semver_ranges.specs.declared.range_set.RangeError.TheVariants.{NotARange, NumberTooLarge, OutOfMemory}
use Rattle.semver_ranges.specs.CargoGrammar.{as_read}
use Rattle.semver_ranges.specs.Partials.{states_nothing}
use Rattle.semver_ranges.specs.RangeTree.{RangeTree, SetTree, Simple, empty, hyphen, simples}
use Rattle.semver_ranges.specs.Sides.{term_fits}
use Rattle.semver_ranges.specs.Terms.{left_side, right_side}
use Rattle.semver_ranges.specs.TextItems.{Item, one_term}
use Rattle.semver_ranges.specs.Steps.Answers.{IsInvalidBy}
use Rattle.semver_ranges.specs.Steps.Checked.{IsSurveyed}
use Rattle.semver_ranges.specs.Steps.CursorViews.{HasLeft, IsBegunIn, IsEventOf, IsFirst}
use Rattle.semver_ranges.specs.Steps.FoundItems.{comparator, simple_of}
use Rattle.semver_ranges.specs.Steps.Reading.{after_blanks, read as tree_of}
use Rattle.semver_ranges.specs.Steps.RangeEvents.{Event, before_others, event_fits, events, events_of, in_front, next_range, one_simple, put}
use Rattle.semver_ranges.specs.Steps.RangeEvents.{set_events, yielded}
use Rattle.semver_ranges.proofs.EventSteps.{begin_left}
use Rattle.semver_ranges.proofs.ReadingSound.{read_sound}

-- an event that is the first of these
pub next_given : (g : Grammar) (es : List Event) (e : read.Event) (after : Events) → IsFirst g (Some es) e after
    → (x : Event) × (others : List Event) × IsEventOf x e × HasLeft g after (Some others) × (es ≡ x ∷ others)
next_given g es e after (x, None, is, has, whole) = cc
next_given g es e after (x, Some others, is, has, whole) = (x, others, is, has, cc)

-- ---- the first event of a text is a term
abbrev pub BeginsSimple : List Event → Type 0
BeginsSimple es = (s : Simple) × (others : List Event) × (es ≡ one_simple s ∷ others)

first_yielded : (r : RangeTree) (es : List Event) → BeginsSimple (in_front (yielded r) es)
first_yielded empty es = (_, _, refl)
first_yielded (simples first others) es = (_, _, refl)
first_yielded (hyphen l r) es = by_test (states_nothing r)
    (λ y. (left_side l, es, rw y refl))
    (λ n. by_test (states_nothing l)
    (λ y. (right_side r, es, rw (n, y) refl))
    (λ m. (left_side l, one_simple (right_side r) ∷ es, rw (n, m) refl)))

first_of_ranges : (r : RangeTree) (others : SetTree) → BeginsSimple (events_of (r ∷ others))
first_of_ranges r [] = first_yielded r []
first_of_ranges r (next ∷ others) = first_yielded r (next_range ∷ events_of (next ∷ others))

begins_ranges : (g : Grammar) (t : Text) (es : List Event) → set_events (tree_of g t) ≡ Some es → BeginsSimple es
begins_ranges g t es e = at (tree_of g t) refl e where
  at : (o : Option SetTree) → tree_of g t ≡ o → set_events o ≡ Some es → BeginsSimple es
  at None is e = cc
  at (Some []) is e = absurd (read_sound g t [] is)
  at (Some (r ∷ others)) is e = let first = first_of_ranges r others in (first.0, first.1, (let same : events_of (r ∷ others) ≡ es = cc in sym same ∙ first.2))

begins_comparators : (f : Text → Option (List Simple)) (o : Option (Item × Text)) (es : List Event)
    → option_map (λ ss. in_front (map as_read ss) []) (before_others f o) ≡ Some es → BeginsSimple es
begins_comparators f None es e = cc
begins_comparators f (Some (one_term x, u)) es e = at (f u) e where
  at : (o : Option (List Simple)) → option_map (λ ss. in_front (map as_read ss) []) (option_map (λ ss. simple_of x ∷ ss) o) ≡ Some es
      → BeginsSimple es
  at None e = cc
  at (Some ss) e = (as_read (simple_of x), in_front (map as_read ss) [], cc)
begins_comparators f (Some (_, u)) es e = cc

pub begins_simple : (g : Grammar) (t : Text) (es : List Event) → events g t ≡ Some es → BeginsSimple es
begins_simple grammar.Cargo t es e = begins_comparators _ (comparator true (after_blanks grammar.Cargo t)) es e
begins_simple grammar.Npm t es e = begins_ranges grammar.Npm t es (begin_left grammar.Npm t _ refl ∙ e)
begins_simple grammar.Crate t es e = begins_ranges grammar.Crate t es (begin_left grammar.Crate t _ refl ∙ e)

pub no_separator : (g : Grammar) (t : Text) (left : Option (List Event)) → events g t ≡ put next_range left → events g t ≡ None
no_separator g t None e = e
no_separator g t (Some es) e = let first = begins_simple g t (next_range ∷ es) e in absurd (let wrong = first.2 in cc)

pub no_end : (g : Grammar) (t : Text) → events g t ≡ Some [] → events g t ≡ None
no_end g t e = let first = begins_simple g t [] e in absurd (let wrong = first.2 in cc)

-- what is known after the first term and the survey of the others
module _ (d : Dialect) (o : Option (List Event)) (s : Simple) (f : Bool) (left : Option (List Event)) (first : o ≡ put (one_simple s) left)
    (fits : f ≡ term_fits d s) where
  all_events : (es : List Event) (b : Bool) → left ≡ Some es → (f && list_all (event_fits (term_fits d)) es) ≡ b
      → (o ≡ Some (one_simple s ∷ es)) × (list_all (event_fits (term_fits d)) (one_simple s ∷ es) ≡ b)
  all_events es b is same =
      (first ∙ ap (put (one_simple s)) is, ap (λ b. b && list_all (event_fits (term_fits d)) es) (sym fits) ∙ same)

  pub refused : (e : RangeError) → IsSurveyed d f left (Err e) → IsInvalidBy o (term_fits d) e
  refused NotARange none = first ∙ ap (put (one_simple s)) none
  refused NumberTooLarge (es, is, large) = let all = all_events es false is large in (one_simple s ∷ es, all.0, all.1)
  refused OutOfMemory no_error = no_error

  -- all events fit
  pub surveyed : (count : ℕ) → IsSurveyed d f left (Ok count)
      → (es : List Event) × (o ≡ Some es) × (list_all (event_fits (term_fits d)) es ≡ true)
  surveyed count (es, is, fit) = let all = all_events es true is fit in (one_simple s ∷ es, all.0, all.1)

  -- the term is the only event, and fits
  pub only : f ≡ true → left ≡ Some [] → (o ≡ Some (one_simple s ∷ [])) × (list_all (event_fits (term_fits d)) (one_simple s ∷ []) ≡ true)
  only fit none = all_events [] true none (ap (λ b. b && true) fit)

-- the events of a text with whose beginning a cursor begins are left
pub begun_left : (g : Grammar) (t : Text) (begin : Events) (es : List Event) → IsBegunIn g t begin → events g t ≡ Some es
    → HasLeft g begin (Some es)
begun_left g t begin es begun e = subst (HasLeft g begin) e begun.0

-- The events of a range are widened to those of another one if and only if its alternatives are.
use Rattle.std.proofs.Common.{arith, ◌≡◌, ◌↔◌, Bool, true, false, ◌&&◌, ◌||◌, List, [], ◌∷◌, refl, sym, ap, subst, ◌∙◌}
use Rattle.std.proofs.Math.Bool.{and-true, or-false}
use Rattle.std.specs.List.{list_all, list_any}
use Rattle.std.specs.Prelude.{Some}
use Rattle.std.proofs.lemmas.Bool.{and_parts}
use Rattle.semver_texts.specs.declared.grammar.Grammar.{Grammar}
use Rattle.semver_ranges.specs.declared.events.Event as read
use Rattle.semver_ranges.specs.declared.events.Event.TheVariants as event
use Rattle.semver_ranges.specs.declared.grammar.Simple as read_simple
use Rattle.semver_ranges.specs.RangeTree.{Simple}
use Rattle.semver_ranges.specs.Steps.CursorViews.{IsEventOf, IsSimpleOf}
use Rattle.semver_ranges.specs.Steps.RangeEvents.{Event, event_fits, one_simple, next_range, in_front}
use Rattle.semver_ranges.specs.Terms.{of_simple}
use Rattle.tool_ranges.specs.NpmMeaning.{matches_everything}
use Rattle.semver_ranges.specs.declared.checked.Checked.{Checked}
use Rattle.semver_ranges.specs.declared.dialect.Dialect.{Dialect}
use Rattle.semver_ranges.specs.Sides.{term_fits}
use Rattle.semver_ranges.specs.Steps.Checked.{GivesEvent, HasEvents}
use Rattle.tool_ranges.specs.Steps.TextEvents.{events_in}
use Rattle.tool_ranges.specs.Steps.WidenedEvents.{AreWidenedEvents, IsWidenedEvent, has_everything, read_term}
use Rattle.tool_ranges.specs.Widening.{AreWidened, AreWidenedTerms, IsWidenedTerm, is_everything, stated_by}
use Rattle.tool_ranges.proofs.MatchedTerms.{same_read}

-- the events after the terms of a range, before these other ranges
abbrev others_in : List (List Simple) → List Event
others_in [] = []
others_in (ss ∷ others) = next_range ∷ events_in (ss ∷ others)

first_in : (ss : List Simple) (others : List (List Simple)) → events_in (ss ∷ others) ≡ in_front ss (others_in others)
first_in ss [] = refl
first_in ss (next ∷ others) = refl

-- ---- whether some range matches everything

pub or_assoc : (a b c : Bool) → (a || (b || c)) ≡ ((a || b) || c)
or_assoc a b c = grind arith

and_assoc : (a b c : Bool) → ((a && b) && c) ≡ (a && (b && c))
and_assoc a b c = grind arith

everything_after : (here : Bool) (ss : List Simple) (es : List Event)
    → has_everything here (in_front ss es) ≡ has_everything (here && is_everything ss) es
everything_after here [] es = ap (λ b. has_everything b es) (sym (and-true here))
everything_after here (s ∷ ss) es =
    everything_after (here && matches_everything (of_simple s)) ss es
    ∙ ap (λ b. has_everything b es) (and_assoc here (matches_everything (of_simple s)) (is_everything ss))

everything_in : (ss : List Simple) (others : List (List Simple))
    → has_everything true (events_in (ss ∷ others)) ≡ list_any is_everything (ss ∷ others)
everything_in ss [] = everything_after true ss [] ∙ sym (or-false (is_everything ss))
everything_in ss (next ∷ others) =
    everything_after true ss (others_in (next ∷ others)) ∙ ap (λ b. is_everything ss || b) (everything_in next others)

-- ---- widened events

terms_first : (ss rs : List Simple) (old new : List (List Simple))
    → AreWidenedEvents (in_front ss (others_in old)) (in_front rs (others_in new))
    ↔ (AreWidenedTerms ss rs × AreWidenedEvents (others_in old) (others_in new))
terms_first [] [] old new = (λ is. (tt, is), λ is. is.1)
terms_first [] (r ∷ rs) [] new = (λ is. absurd is, λ is. absurd is.0)
terms_first [] (r ∷ rs) (next ∷ old) new = (λ is. absurd is.0, λ is. absurd is.0)
terms_first (s ∷ ss) [] old [] = (λ is. absurd is, λ is. absurd is.0)
terms_first (s ∷ ss) [] old (next ∷ new) = (λ is. absurd is.0, λ is. absurd is.0)
terms_first (s ∷ ss) (r ∷ rs) old new =
    let rest = terms_first ss rs old new in (
      λ is. ((is.0, (rest.0 is.1).0), (rest.0 is.1).1),
      λ is. (is.0.0, rest.1 (is.0.1, is.1)),
    )

with_first : (ss rs : List Simple) (old new : List (List Simple))
    → AreWidenedEvents (others_in old) (others_in new) ↔ AreWidened old new
    → AreWidenedEvents (events_in (ss ∷ old)) (events_in (rs ∷ new)) ↔ AreWidened (ss ∷ old) (rs ∷ new)
with_first ss rs old new rest =
    let first = terms_first ss rs old new in
    rw (first_in ss old, first_in rs new) (
      λ is. ((first.0 is).0, rest.0 (first.0 is).1),
      λ is. first.1 (is.0, rest.1 is.1),
    )

others_widened : (old new : List (List Simple)) → AreWidenedEvents (others_in old) (others_in new) ↔ AreWidened old new
others_widened [] [] = (λ is. refl, λ is. tt)
others_widened [] (rs ∷ new) = (λ is. sym (everything_in rs new) ∙ is, λ is. everything_in rs new ∙ is)
others_widened (ss ∷ old) [] = (λ is. absurd is, λ is. absurd is)
others_widened (ss ∷ old) (rs ∷ new) =
    let more = with_first ss rs old new (others_widened old new) in (λ is. more.0 is.1, λ is. (tt, more.1 is))

pub events_widened : (ss rs : List Simple) (old new : List (List Simple))
    → AreWidenedEvents (events_in (ss ∷ old)) (events_in (rs ∷ new)) ↔ AreWidened (ss ∷ old) (rs ∷ new)
events_widened ss rs old new = with_first ss rs old new (others_widened old new)

-- ---- events that were read

read_is : (d : Dialect) (s : Simple) (simple : read_simple.Simple) → IsSimpleOf s simple → term_fits d s ≡ true
    → read_term simple ≡ stated_by s
read_is d s simple is fit =
    let same = same_read d s simple is fit in
    λ i. record { operator = is.0 i; numbers = same.0 i; pre = (same.1 i).pre }

-- a test of two terms that were read is a test of their events
pub terms_of_events : (d : Dialect) (e f : Event) (term other : read_simple.Simple) (b : Bool) → IsEventOf e (event.Simple term)
    → IsEventOf f (event.Simple other) → event_fits (term_fits d) e ≡ true → event_fits (term_fits d) f ≡ true
    → (b ≡ true) ↔ IsWidenedTerm (read_term term) (read_term other) → (b ≡ true) ↔ IsWidenedEvent e f
terms_of_events d (one_simple s) (one_simple r) term other b is isnt fits fit same =
    subst (λ x. (b ≡ true) ↔ IsWidenedTerm x (stated_by r)) (read_is d s term is fits)
    (subst (λ x. (b ≡ true) ↔ IsWidenedTerm (read_term term) x) (read_is d r other isnt fit) same)
terms_of_events d next_range f term other b is isnt fits fit same = absurd is
terms_of_events d (one_simple s) next_range term other b is isnt fits fit same = absurd isnt

module _ (g : Grammar) (d : Dialect) (left : List Event) (after : Checked)
    (fit : list_all (event_fits (term_fits d)) left ≡ true) (e : read.Event) where
  -- the next event, whose numbers fit, and the events after it
  pub record FirstEvent : Type 0 where
    pub x : Event
    pub others : List Event
    pub is : IsEventOf x e
    pub has : HasEvents g after others
    pub fits : event_fits (term_fits d) x ≡ true
    pub others_fit : list_all (event_fits (term_fits d)) others ≡ true
    pub whole : left ≡ x ∷ others

  pub first_event : GivesEvent g left (Some e) after → FirstEvent
  first_event (x, others, is, has, whole) =
      let both = and_parts (event_fits (term_fits d) x) _ (rw whole at fit) in
      record { x = x; others = others; is = is; has = has; fits = both.0; others_fit = both.1; whole = whole }

-- ---- a loop over the events of both ranges, which are widened if and only if P holds

module _ (P : Type 0) (left right : List Event) (so_far : P ↔ AreWidenedEvents left right)
    (x y : Event) (xs ys : List Event) (first : left ≡ x ∷ xs) (second : right ≡ y ∷ ys) where
  here : P ↔ (IsWidenedEvent x y × AreWidenedEvents xs ys)
  here = subst (λ fs. P ↔ AreWidenedEvents (x ∷ xs) fs) second (subst (λ es. P ↔ AreWidenedEvents es right) first so_far)

  pub one_more : IsWidenedEvent x y → P ↔ AreWidenedEvents xs ys
  one_more is = (λ p. (here.0 p).1, λ rest. here.1 (is, rest))

  pub not_widened : (b : Bool) → (b ≡ true) ↔ IsWidenedEvent x y → b ≡ false → (false ≡ true) ↔ P
  not_widened b is isnt = (λ e. cc, λ p. let both : true ≡ false = sym (is.1 (here.0 p).0) ∙ isnt in cc)

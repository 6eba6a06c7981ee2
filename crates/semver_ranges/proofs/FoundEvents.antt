-- The events that were left begin with the event that was read.
use Rattle.std.proofs.Common.{◌≡◌, ℕ, ◌≤◌, Bool, true, false, arith, List, [], ◌∷◌, Option, Some, None, length, refl}
use Rattle.semver_texts.specs.declared.grammar.Grammar.{Grammar}
use Rattle.semver_ranges.specs.declared.events.Events.{Events}
use Rattle.semver_ranges.specs.declared.grammar.Simple as read
use Rattle.semver_ranges.specs.declared.events.Event.TheVariants as event
use Rattle.semver_ranges.specs.declared.cursor.Event.TheVariants.{Term, EmptyRange}
use Rattle.semver_ranges.specs.declared.term.RawTerm as written
use Rattle.semver_ranges.specs.declared.term.RawVersion.{RawVersion}
use Rattle.semver_texts.specs.Texts.{Text}
use Rattle.semver_ranges.specs.TextItems.{FoundTerm, FoundWord, Item, empty_range, one_term}
use Rattle.semver_ranges.specs.Steps.Items.{IsItemOf, IsTermOf, IsUpperOf, IsViewOf, IsWordOf}
use Rattle.semver_ranges.specs.Steps.Items.{simples_of}
use Rattle.semver_ranges.specs.RangeTree.{Simple}
use Rattle.semver_ranges.specs.Steps.Reading.{simple}
use Rattle.semver_ranges.specs.Steps.RangeEvents.{Event, one_simple, next_range, put, put_simples, wildcard}
use Rattle.semver_ranges.specs.Steps.FoundItems.{flag}
use Rattle.semver_ranges.specs.Steps.CursorViews.{IsSimpleOf, AreSides, IsEventOf, HasAfter, HasLeft, IsFirst}

-- the events of a hyphen range begin with its first side, and the other side, if there is one, is
-- left
pub sides_first : (xs : List Simple) (lower : read.Simple) (upper : Option read.Simple) (o : Option (List Event)) → AreSides xs lower upper
    → (x : Event) × (left : Option (List Event)) × IsEventOf x (event.Simple lower) × HasAfter upper o left
    × (put_simples xs o ≡ put x left)
sides_first (s ∷ []) lower None o is = (one_simple s, o, is, refl, refl)
sides_first (s ∷ next ∷ []) lower (Some upper) o is = (one_simple s, put _ o, is.0, (next, is.1, refl), refl)
sides_first _ lower upper o is = absurd is

pub flag_small : (b : Bool) → flag b ≤ 1
flag_small true = omega arith
flag_small false = omega arith

module _ (d : Grammar) where
  -- a term that is the first event, and the events that are left after it
  pub record FirstSimple (o : Option (List Event)) (simple : read.Simple) (cursor : Events) : Type 0 where
    pub s : Simple
    pub left : Option (List Event)
    pub is : IsSimpleOf s simple
    pub has : HasLeft d cursor left
    pub whole : o ≡ put (one_simple s) left

  pub first_simple : (o : Option (List Event)) (simple : read.Simple) (cursor : Events)
      → IsFirst d o (event.Simple simple) cursor
      → FirstSimple o simple cursor
  first_simple o simple cursor (one_simple s, left, is, has, e) = record { s = s; left = left; is = is; has = has; whole = e }
  first_simple o simple cursor (next_range, left, is, has, e) = absurd is

  -- two bars that are the first event, and the events that are left after them
  pub first_bars : (o : Option (List Event)) (cursor : Events) → IsFirst d o event.NextRange cursor
      → (left : Option (List Event)) × HasLeft d cursor left × (o ≡ put next_range left)
  first_bars o cursor (next_range, left, is, has, e) = (left, has, e)
  first_bars o cursor (one_simple s, left, is, has, e) = absurd is

  -- a term that is the first of the events `es`, and the events after it
  pub record NextSimple (es : List Event) (simple : read.Simple) (cursor : Events) : Type 0 where
    pub s : Simple
    pub after : List Event
    pub is : IsSimpleOf s simple
    pub has : HasLeft d cursor (Some after)
    pub whole : es ≡ one_simple s ∷ after

  pub next_simple : (es : List Event) (simple : read.Simple) (cursor : Events)
      → IsFirst d (Some es) (event.Simple simple) cursor
      → NextSimple es simple cursor
  next_simple es simple cursor (one_simple s, None, is, has, e) = cc
  next_simple es simple cursor (one_simple s, Some after, is, has, e) = record { s = s; after = after; is = is; has = has; whole = cc }
  next_simple es simple cursor (next_range, left, is, has, e) = absurd is

  -- two bars that are the first of the events `es`, and the events after them
  pub next_bars : (es : List Event) (cursor : Events) → IsFirst d (Some es) event.NextRange cursor
      → (after : List Event) × HasLeft d cursor (Some after) × (es ≡ next_range ∷ after)
  next_bars es cursor (one_simple s, left, is, has, e) = absurd is
  next_bars es cursor (next_range, None, is, has, e) = cc
  next_bars es cursor (next_range, Some after, is, has, e) = (after, has, cc)

  -- the right side of a hyphen range that was read
  pub found_upper : (t : Text) (x : Option FoundWord) (v : RawVersion) → IsUpperOf d t x (Some v)
      → (u : FoundWord) × (x ≡ Some u) × IsWordOf d u v × (length u.from ≤ length t)
  found_upper t None v is = absurd is
  found_upper t (Some u) v is = (u, refl, is.0, is.1)

  pub no_upper : (t : Text) (x : Option FoundWord) → IsUpperOf d t x None → x ≡ None
  no_upper t None is = refl
  no_upper t (Some u) is = absurd is

  -- the view of an event in plain terms
  pub view_term : (g : Grammar) (n : ℕ) (x : Item) (term : written.RawTerm) (first : read.Simple) (upper : Option read.Simple)
      → IsItemOf d n x (Term term) → ((y : FoundTerm) → IsTermOf d y term → AreSides (simples_of g y) first upper)
      → IsViewOf g x true (event.Simple first) upper
  view_term g n (one_term y) term first upper is sides =
      (λ o. sides_first (simples_of g y) first upper o (sides y is.0), flag_small _)
  view_term g n _ term first upper is sides = absurd is

  pub view_empty : (g : Grammar) (n : ℕ) (x : Item) (simple : read.Simple) → IsItemOf d n x EmptyRange
      → IsSimpleOf wildcard simple → IsViewOf g x false (event.Simple simple) None
  view_empty g n empty_range simple is one = (λ o. (one_simple wildcard, o, one, refl, refl), omega arith)
  view_empty g n _ simple is one = absurd is

-- The events that are left of a range text that was checked, after a term and after a range.
use Rattle.std.proofs.Common.{◌≡◌, true, List, ◌∷◌}
use Rattle.std.proofs.lemmas.Bool.{and_parts}
use Rattle.std.specs.List.{list_all}
use Rattle.std.specs.Prelude.{Some}
use Rattle.semver_texts.specs.declared.grammar.Grammar.{Grammar}
use Rattle.semver_ranges.specs.declared.events.Event.TheVariants as event
use Rattle.semver_ranges.specs.declared.grammar.Simple as read
use Rattle.semver_ranges.specs.RangeTree.{Simple}
use Rattle.semver_ranges.specs.Steps.CursorViews.{IsSimpleOf}
use Rattle.semver_ranges.specs.Steps.RangeEvents.{Event, one_simple, next_range, event_fits}
use Rattle.semver_ranges.specs.declared.checked.Checked.{Checked}
use Rattle.semver_ranges.specs.declared.dialect.Dialect.{Dialect}
use Rattle.semver_ranges.specs.Steps.Checked.{GivesEvent, HasEvents}
use Rattle.semver_ranges.specs.Sides.{term_fits}

module _ (g : Grammar) (d : Dialect) (left : List Event) (after : Checked) (fit : list_all (event_fits (term_fits d)) left ≡ true) where
  -- the next event is a term whose numbers fit, and `others` are the events after it
  pub record FirstFits (simple : read.Simple) : Type 0 where
    pub s : Simple
    pub others : List Event
    pub is : IsSimpleOf s simple
    pub has : HasEvents g after others
    pub fits : term_fits d s ≡ true
    pub others_fit : list_all (event_fits (term_fits d)) others ≡ true
    pub whole : left ≡ one_simple s ∷ others

  pub first_fits : (simple : read.Simple) → GivesEvent g left (Some (event.Simple simple)) after → FirstFits simple
  first_fits simple (one_simple s, others, is, has, e) =
      let both = and_parts (term_fits d s) (list_all (event_fits (term_fits d)) others) (rw e at fit) in
      record { s = s; others = others; is = is; has = has; fits = both.0; others_fit = both.1; whole = e }
  first_fits simple (next_range, others, is, has, e) = absurd is

  -- the next event is the separator between two ranges
  pub next_first : GivesEvent g left (Some event.NextRange) after
      → (others : List Event) × HasEvents g after others × (list_all (event_fits (term_fits d)) others ≡ true) × (left ≡ next_range ∷ others)
  next_first (next_range, others, is, has, e) = (others, has, rw e at fit, e)
  next_first (one_simple s, others, is, has, e) = absurd is

-- A range text that was checked has a tree whose numbers fit, and its events are left.
use Rattle.std.proofs.Common.{◌≡◌, Bool, true, false, Option, Some, None, List, refl, ap, sym, ◌∙◌, subst}
use Rattle.std.specs.List.{list_all}
use Rattle.std.specs.Prelude.{MatchResult, Result, Err, Ok, option_map}
use Rattle.semver_texts.specs.Texts.{Text}
use Rattle.semver_ranges.specs.declared.checked.Checked.{Checked}
use Rattle.semver_ranges.specs.declared.dialect.Dialect.{Dialect}
use Rattle.semver_ranges.specs.declared.range_set.RangeError.{RangeError}
use Rattle.semver_ranges.specs.declared.range_set.RangeError.TheVariants.{NotARange, NumberTooLarge, OutOfMemory}
use Rattle.semver_ranges.specs.DialectTable.{grammar_of}
use Rattle.semver_ranges.specs.RangeTree.{SetTree}
use Rattle.semver_ranges.specs.Sides.{term_fits}
use Rattle.semver_ranges.specs.Steps.Answers.{IsInvalidBy}
use Rattle.semver_ranges.specs.Steps.Checked.{HasEvents, IsCheckedBy}
use Rattle.semver_ranges.specs.Steps.RangeEvents.{Event, event_fits}
use Rattle.tool_ranges.specs.Dialects.{fits_as}
use Rattle.tool_ranges.specs.Steps.Checked.{IsCheckedAs}
use Rattle.tool_ranges.specs.Steps.TextEvents.{events_in, ranges_of, read_as, text_events}
use Rattle.tool_ranges.specs.Steps.Reading.{IsRefusedAs}
use Rattle.tool_ranges.proofs.MatchedEvents.{ranges_fit}

module _ (d : Dialect) (t : Text) where
  read_none : text_events d t ≡ None → read_as d t ≡ None
  read_none e = at (read_as d t) e where
    at : (o : Option SetTree) → option_map (λ tree. events_in (ranges_of d tree)) o ≡ None → o ≡ None
    at None e = refl
    at (Some tree) e = cc

  pub read_some : (es : List Event) → text_events d t ≡ Some es
      → (tree : SetTree) × (read_as d t ≡ Some tree) × (es ≡ events_in (ranges_of d tree))
  read_some es e = at (read_as d t) refl e where
    at : (o : Option SetTree) → read_as d t ≡ o → option_map (λ tree. events_in (ranges_of d tree)) o ≡ Some es
        → (tree : SetTree) × (read_as d t ≡ Some tree) × (es ≡ events_in (ranges_of d tree))
    at None is e = cc
    at (Some tree) is e = (tree, is, (let same : events_in (ranges_of d tree) ≡ es = cc in sym same))

  -- the tree of events that all fit, or of which one doesn't
  pub fitting : (es : List Event) (b : Bool) → text_events d t ≡ Some es → list_all (event_fits (term_fits d)) es ≡ b
      → (tree : SetTree) × (read_as d t ≡ Some tree) × (fits_as d tree ≡ b) × (es ≡ events_in (ranges_of d tree))
  fitting es b e fit = let read = read_some es e in
      (read.0, read.1, sym (ranges_fit d t read.0 read.1) ∙ ap (list_all (event_fits (term_fits d))) (sym read.2) ∙ fit, read.2)

  pub refused_by : (e : RangeError) → IsInvalidBy (text_events d t) (term_fits d) e → IsRefusedAs d t e
  refused_by NotARange none = read_none none
  refused_by NumberTooLarge (es, e, large) = let read = fitting es false e large in (read.0, read.1, read.2)
  refused_by OutOfMemory wrong = wrong

  pub checked_as : (r : Result Checked RangeError) → IsCheckedBy d (text_events d t) r
      → MatchResult r (λ checked. IsCheckedAs d t checked) (λ e. IsRefusedAs d t e)
  checked_as (Ok checked) (es, e, fit, has) = let read = fitting es true e fit in
      (read.0, read.1, read.2, subst (HasEvents (grammar_of d) checked) read.3 has)
  checked_as (Err e) invalid = refused_by e invalid

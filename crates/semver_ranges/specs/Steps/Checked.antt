-- A means of proof, cited only in clauses of calls between these crates: the events that are left
-- of a range text that was checked.
use Rattle.std.specs.Prelude.{◌≡◌, ◌+◌, ◌&&◌, ℕ, Bool, true, false, Option, Some, None, is_some}
use Rattle.std.specs.Prelude.{List, [], ◌∷◌, Result, Ok, Err, IsTrue}
use Rattle.std.specs.List.{list_all}
use Rattle.semver_texts.specs.declared.grammar.Grammar.{Grammar}
use Rattle.semver_ranges.specs.declared.checked.Checked.{Checked}
use Rattle.semver_ranges.specs.declared.dialect.Dialect.{Dialect}
use Rattle.semver_ranges.specs.declared.events.Event as read
use Rattle.semver_ranges.specs.declared.events.Events.{Events}
use Rattle.semver_ranges.specs.declared.grammar.Simple as found
use Rattle.semver_ranges.specs.declared.range_set.RangeError.{RangeError}
use Rattle.semver_ranges.specs.declared.range_set.RangeError.TheVariants.{NotARange, NumberTooLarge}
use Rattle.semver_ranges.specs.declared.range_set.RangeError.TheVariants.{OutOfMemory}
use Rattle.semver_ranges.specs.DialectTable.{grammar_of}
use Rattle.semver_ranges.specs.RangeTree.{Simple}
use Rattle.semver_ranges.specs.Sides.{term_fits}
use Rattle.semver_ranges.specs.Steps.Answers.{IsInvalidBy}
use Rattle.semver_ranges.specs.Steps.FoundItems.{flag}
use Rattle.semver_ranges.specs.Steps.CursorViews.{HasLeft, IsEventOf, IsSimpleOf, size_left}
use Rattle.semver_ranges.specs.Steps.RangeEvents.{Event, event_fits, one_simple, put}

-- the only term, if it wasn't returned yet, and then the events that the cursor has left
abbrev pub HasOnly : Grammar → Option found.Simple → Events → List Event → Type 0
HasOnly d None cursor es = HasLeft d cursor (Some es)
HasOnly d (Some simple) cursor es =
    (s : Simple) × (others : List Event) × IsSimpleOf s simple × HasLeft d cursor (Some others)
    × (es ≡ one_simple s ∷ others)

abbrev pub HasEvents : Grammar → Checked → List Event → Type 0
HasEvents d checked es = HasOnly d checked.only checked.events es

-- the event is the first that is left, and the others are left after it; `None` if none is left
abbrev pub GivesEvent : Grammar → List Event → Option read.Event → Checked → Type 0
GivesEvent d es None after = es ≡ []
GivesEvent d es (Some e) after = (x : Event) × (others : List Event) × IsEventOf x e
    × HasEvents d after others × (es ≡ x ∷ others)

-- the events fit and are left, or the error is possible for them
abbrev pub IsCheckedBy : Dialect → Option (List Event) → Result Checked RangeError → Type 0
IsCheckedBy dialect o (Ok checked) = (es : List Event) × (o ≡ Some es)
    × IsTrue (list_all (event_fits (term_fits dialect)) es)
    × HasEvents (grammar_of dialect) checked es
IsCheckedBy dialect o (Err e) = IsInvalidBy o (term_fits dialect) e

-- the first term, and the events after it; `None` if the text isn't in the grammar
abbrev pub FindsFirst : Grammar → Option (List Event) → Option (found.Simple × Events) → Type 0
FindsFirst d o None = o ≡ None
FindsFirst d o (Some first) = (s : Simple) × (left : Option (List Event)) × IsSimpleOf s first.0
    × HasLeft d first.1 left × (o ≡ put (one_simple s) left)

-- the rest of a text was checked, where `fit` says whether the terms before it fit
abbrev pub IsSurveyed : Dialect → Bool → Option (List Event) → Result ℕ RangeError → Type 0
IsSurveyed dialect fit o (Ok count) = (es : List Event) × (o ≡ Some es)
    × ((fit && list_all (event_fits (term_fits dialect)) es) ≡ true)
IsSurveyed dialect fit o (Err NotARange) = o ≡ None
IsSurveyed dialect fit o (Err NumberTooLarge) = (es : List Event) × (o ≡ Some es)
    × ((fit && list_all (event_fits (term_fits dialect)) es) ≡ false)
IsSurveyed dialect fit o (Err OutOfMemory) = ⊥

-- an upper bound on the number of events that are left
abbrev pub size_after : Checked → ℕ
size_after checked = size_left checked.events + flag (is_some checked.only)

-- A means of proof, which no public clause cites: whether a range is widened to another one, found
-- from the events of both from left to right.
use Rattle.std.specs.Prelude.{◌≡◌, Bool, true, false, ◌&&◌, ◌||◌, List, [], ◌∷◌}
use Rattle.semver_ranges.specs.declared.grammar.Simple as read
use Rattle.semver_ranges.specs.Steps.PartialViews.{stated_of, version_of}
use Rattle.semver_ranges.specs.Steps.RangeEvents.{Event, one_simple, next_range}
use Rattle.semver_ranges.specs.Terms.{of_simple}
use Rattle.tool_ranges.specs.NpmMeaning.{matches_everything}
use Rattle.tool_ranges.specs.Widening.{IsWidenedTerm, Stated, stated_by}

-- what a term states that was read
abbrev pub read_term : read.Simple → Stated
read_term simple = record {
  operator = simple.operator;
  numbers = stated_of simple.partial;
  pre = (version_of simple.partial).pre;
}

-- whether some range of these events matches everything, where `here` says whether the terms of the
-- first range before these events do
abbrev pub has_everything : Bool → List Event → Bool
has_everything here [] = here
has_everything here (one_simple s ∷ es) =
    has_everything (here && matches_everything (of_simple s)) es
has_everything here (next_range ∷ es) = here || has_everything true es

-- what is added at the end of a range: nothing, or other ranges, none of which matches everything
abbrev pub AreAdded : List Event → Type 0
AreAdded [] = Unit {0}
AreAdded (one_simple s ∷ es) = ⊥
AreAdded (next_range ∷ es) = has_everything true es ≡ false

-- one event is widened to another
abbrev pub IsWidenedEvent : Event → Event → Type 0
IsWidenedEvent (one_simple s) (one_simple r) = IsWidenedTerm (stated_by s) (stated_by r)
IsWidenedEvent next_range next_range = Unit {0}
IsWidenedEvent _ _ = ⊥

-- each event is widened to the one at the same position, and what follows is added
abbrev pub AreWidenedEvents : List Event → List Event → Type 0
AreWidenedEvents [] fs = AreAdded fs
AreWidenedEvents (e ∷ es) [] = ⊥
AreWidenedEvents (e ∷ es) (f ∷ fs) = IsWidenedEvent e f × AreWidenedEvents es fs

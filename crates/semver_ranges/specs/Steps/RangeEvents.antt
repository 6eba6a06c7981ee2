-- A means of proof, cited only in clauses of calls between these crates: the events of a range
-- text, from left to right.
use Rattle.std.specs.Prelude.{Bool, true, false, ◌&&◌, not, if◌then◌else◌, Option, Some, None}
use Rattle.std.specs.Prelude.{option_map, List, [], ◌∷◌, map, codes, ℕ, zero, suc, length}
use Rattle.semver_texts.specs.declared.grammar.Grammar.{Grammar}
use Rattle.semver_ranges.specs.declared.operator.Operator.TheVariants.{Bare}
use Rattle.semver_ranges.specs.RangeTree.{one, PartialTree, Simple, RangeTree, empty, hyphen}
use Rattle.semver_ranges.specs.RangeTree.{simples, SetTree}
use Rattle.semver_texts.specs.Texts.{Text, is_empty}
use Rattle.semver_ranges.specs.CargoGrammar.{as_read, is_cargo}
use Rattle.semver_ranges.specs.Partials.{states_nothing}
use Rattle.semver_ranges.specs.Terms.{left_side, right_side}
use Rattle.semver_ranges.specs.Steps.Reading.{after_bars, after_blanks, after_range}
use Rattle.semver_ranges.specs.Steps.Reading.{all_simples, range_here, read}
use Rattle.semver_ranges.specs.TextItems.{Item, one_term}
use Rattle.semver_ranges.specs.Steps.FoundItems.{comparator, simple_of}

-- an event: a term of the range, or two bars
pub data Event : Type 0 where
  one_simple : Simple → Event
  next_range : Event

-- a wildcard without an operator
abbrev pub wildcard : Simple
wildcard = record { operator = Bare; partial = one (codes "*") }

-- the terms that the cursor returns for a hyphen range: its sides, of which one that states no
-- number is left out, except for the left one if neither side states a number
abbrev pub yielded_sides : Simple → PartialTree → List Simple
yielded_sides left right =
    if states_nothing right then left ∷ []
    else (if states_nothing left.partial then right_side right ∷ []
    else left ∷ right_side right ∷ [])

-- the terms that the cursor returns for a range. An empty range gives a wildcard
abbrev pub yielded : RangeTree → List Simple
yielded empty = wildcard ∷ []
yielded (hyphen left right) = yielded_sides (left_side left) right
yielded (simples first others) = first ∷ others

-- the events of terms, and then these events
abbrev pub in_front : List Simple → List Event → List Event
in_front [] es = es
in_front (s ∷ ss) es = one_simple s ∷ in_front ss es

-- the events of a range set: the terms of its ranges, and two bars between each range and the next
abbrev pub events_of : SetTree → List Event
events_of [] = []
events_of (r ∷ []) = in_front (yielded r) []
events_of (r ∷ next ∷ others) =
    in_front (yielded r) (next_range ∷ events_of (next ∷ others))

-- whether an event fits, if `fit` decides this for a term
abbrev pub event_fits : (Simple → Bool) → Event → Bool
event_fits fit (one_simple s) = fit s
event_fits fit next_range = true

-- an event, and below, the events of terms, before the events that are left
abbrev pub put : Event → Option (List Event) → Option (List Event)
put e None = None
put e (Some es) = Some (e ∷ es)

abbrev pub put_simples : List Simple → Option (List Event) → Option (List Event)
put_simples [] o = o
put_simples (s ∷ ss) o = put (one_simple s) (put_simples ss o)

-- the events of a set, or `None` if there is none
abbrev pub set_events : Option SetTree → Option (List Event)
set_events None = None
set_events (Some tree) = Some (events_of tree)

-- the events that are left after a range, from its end on
abbrev pub at_bars : Grammar → Option Text → Option (List Event)
at_bars d None = None
at_bars d (Some t) = put next_range (set_events (read d t))

abbrev pub others_left : Grammar → Text → Option (List Event)
others_left d [] = Some []
others_left d (b ∷ t) = at_bars d (after_bars (b ∷ t))

-- the events of these terms, and then those that are left of the text after them
abbrev pub simples_left : Grammar → Option (List Simple × Text) → Option (List Event)
simples_left d None = None
simples_left d (Some (ss, end)) = put_simples ss (others_left d end)

-- the events that are left: at the beginning of a range, after its blanks, if the flag is true, and
-- otherwise within a range
abbrev pub ranges_left : Grammar → Bool → Text → Option (List Event)
ranges_left d true t = set_events (after_range (read d) (range_here d t))
ranges_left d false t = simples_left d (all_simples d t)

-- the comparators of Cargo that are left. The number is a limit for the depth of the recursion
abbrev pub before_others : (Text → Option (List Simple)) → Option (Item × Text)
    → Option (List Simple)
before_others others (Some (one_term x, u)) = option_map (λ ss. simple_of x ∷ ss) (others u)
before_others others _ = None

abbrev pub some_comparators : ℕ → Bool → Text → Option (List Simple)
some_comparators zero is_first t = None
some_comparators (suc n) is_first t = if not is_first && is_empty t then Some []
    else before_others (some_comparators n false) (comparator is_first t)

abbrev pub comparators_left : Bool → Text → Option (List Simple)
comparators_left is_first t = some_comparators (suc (length t)) is_first t

-- the events that are left in each grammar
abbrev pub events_left : Grammar → Bool → Text → Option (List Event)
events_left d begins t = if is_cargo d
    then option_map (λ ss. in_front (map as_read ss) []) (comparators_left begins t)
    else ranges_left d begins t

-- the events of a text, or `None` if it isn't in the grammar
abbrev pub events : Grammar → Text → Option (List Event)
events d t = events_left d true (after_blanks d t)

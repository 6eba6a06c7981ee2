-- The terms of a range. A version has to satisfy each of them.
use Rattle.std.specs.Prelude.{◌&&◌, not, if◌then◌else◌, List, [], ◌∷◌, map}
use Rattle.semver_ranges.specs.declared.operator.Operator.TheVariants.{LessOrEqual, Hyphen}
use Rattle.semver_ranges.specs.RangeTree.{PartialTree, Simple, RangeTree, empty, hyphen, simples}
use Rattle.semver_ranges.specs.Partials.{states_nothing}

-- a term: a partial version with its operator, or an empty range
pub data Term : Type 0 where
  of_simple : Simple → Term
  of_nothing : Term

-- the left side of a hyphen range as a term. Its operator means the same as `>=`, except that in
-- npm's dialect it may contain more pre-releases
abbrev pub left_side : PartialTree → Simple
left_side p = record { operator = Hyphen; partial = p }

-- the right side of a hyphen range as a term, with `<=`
abbrev pub right_side : PartialTree → Simple
right_side p = record { operator = LessOrEqual; partial = p }

-- the sides of a hyphen range as terms. A side that states no number is left out if the other side
-- states one
abbrev pub sides : PartialTree → PartialTree → List Simple
sides left right =
    if states_nothing left && not (states_nothing right) then right_side right ∷ []
    else (if states_nothing right && not (states_nothing left) then left_side left ∷ []
    else left_side left ∷ right_side right ∷ [])

-- the terms of a range: for a hyphen range its sides, and for an empty range the range itself
abbrev pub terms : RangeTree → List Term
terms empty = of_nothing ∷ []
terms (hyphen left right) = map of_simple (sides left right)
terms (simples first others) = map of_simple (first ∷ others)

-- The events of a range set fit if and only if the set does, and have the comparators of its
-- ranges.
use Rattle.std.proofs.Common.{◌≡◌, Bool, ◌&&◌, List, [], ◌∷◌, refl, sym, arith}
use Rattle.std.specs.List.{list_all, flat_map}
use Rattle.std.proofs.lemmas.List.Folds.{list_all-map}
use Rattle.semver_ranges.specs.declared.range.Compat.{Compat}
use Rattle.semver_ranges.specs.RangeTree.{Simple, RangeTree, empty, hyphen, simples, SetTree}
use Rattle.semver_ranges.specs.Partials.{stated}
use Rattle.semver_ranges.specs.Terms.{of_simple, terms}
use Rattle.semver_ranges.specs.RewritingTable.{PlainComparator, term_fits_by, range_by, fits_by}
use Rattle.semver_ranges.specs.Steps.RangeEvents.{Event, yielded, in_front, events_of, event_fits}
use Rattle.semver_ranges.specs.Steps.Answers.{range_of_simples}
use Rattle.semver_ranges.proofs.Tables.{IsTable, nothing_is}

module _ {fit : Simple → Bool} {written : Simple → List PlainComparator} (table : IsTable fit written) where
  -- these terms fit if and only if the range does, and have its comparators
  abbrev IsMadeOf : RangeTree → List Simple → Type 0
  IsMadeOf r ss = (list_all fit ss ≡ list_all (term_fits_by fit) (terms r)) × (flat_map written ss ≡ range_by written r)

  made_of : (r : RangeTree) → IsMadeOf r (yielded r)
  made_of empty = rw (table.empty_fits, table.empty) (refl, refl)
  made_of (hyphen l r) = grind (arith, nothing_is (stated l), nothing_is (stated r), table.fits r, table.left l)
  made_of (simples first others) = (sym (list_all-map (term_fits_by fit) of_simple (first ∷ others)), refl)

  pub range_made : (mode : Compat) (r : RangeTree)
      → range_of_simples written mode (yielded r) ≡ record { comparators = range_by written r; compat = mode }
  range_made mode r = rw (made_of r).1

front_fits : (fit : Simple → Bool) (ss : List Simple) (es : List Event)
    → list_all (event_fits fit) (in_front ss es) ≡ (list_all fit ss && list_all (event_fits fit) es)
front_fits fit [] es = refl
front_fits fit (s ∷ ss) es = grind (arith, front_fits fit ss es)

-- the events of a set fit if and only if the set does
pub set_fits : {fit : Simple → Bool} {written : Simple → List PlainComparator} (table : IsTable fit written)
    (tree : SetTree) → list_all (event_fits fit) (events_of tree) ≡ fits_by fit tree
set_fits table [] = refl
set_fits table (r ∷ []) = rw (front_fits, (made_of table r).0)
set_fits table (r ∷ next ∷ others) =
    rw (front_fits, (made_of table r).0, set_fits table (next ∷ others))

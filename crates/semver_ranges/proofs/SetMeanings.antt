-- If a test of the comparators of each term is equal to a test of the term, this extends to ranges
-- and sets, for any table of comparators.
use Rattle.std.proofs.Common.{arith}
use Rattle.std.proofs.Common.{◌≡◌, Bool, List, [], ◌∷◌, map, refl}
use Rattle.std.proofs.lemmas.List.Folds.{list_all-append}
use Rattle.std.specs.List.{list_all, list_any, flat_map}
use Rattle.std.specs.Ordering.{is_ge}
use Rattle.semver_ranges.specs.declared.range.Op.TheVariants.{Gte}
use Rattle.semver_ranges.specs.declared.range.Compat.{Compat}
use Rattle.semver_ranges.specs.RangeTree.{PartialTree, one, two, three, Simple, RangeTree, empty}
use Rattle.semver_ranges.specs.RangeTree.{hyphen, simples, SetTree}
use Rattle.semver_texts.specs.Precedence.{precedence}
use Rattle.semver_texts.specs.Versions.{IdentifierValue, PlainVersion}
use Rattle.semver_ranges.specs.Partials.{stated, zero_version}
use Rattle.semver_ranges.specs.Terms.{Term, of_simple, of_nothing, left_side, right_side, terms}
use Rattle.semver_ranges.specs.RewritingTable.{PlainComparator, comparator}
use Rattle.semver_ranges.specs.RewritingTable.{range_by, set_by, written_simple, written_set}
use Rattle.semver_ranges.specs.SatisfiedComparators.{meets_comparator, meets_set}
use Rattle.semver_ranges.proofs.Rows.{Shape}
use Rattle.semver_ranges.proofs.Tables.{IsTable, nothing_is, port_table}
use Rattle.semver_ranges.proofs.Tests.{list_any-mapped}

-- a partial version states at most three numbers
pub stated_shape : (p : PartialTree) → Shape (stated p)
stated_shape (one a) = grind (arith, Shape.none, Shape.one)
stated_shape (two a b) = grind (arith, Shape.none, Shape.one, Shape.two)
stated_shape (three a b c pre build) = grind (arith, Shape.none, Shape.one, Shape.two, Shape.three)

module _ {fit : Simple → Bool} {written : Simple → List PlainComparator} (table : IsTable fit written) (test : PlainComparator → Bool) where
  module _ (holds : Term → Bool) (simple_holds : (s : Simple) → list_all test (written s) ≡ holds (of_simple s))
      (nothing_holds : test (comparator Gte zero_version) ≡ holds of_nothing) where
    simples_hold : (ss : List Simple) → list_all test (flat_map written ss) ≡ list_all holds (map of_simple ss)
    simples_hold [] = refl
    simples_hold (s ∷ ss) = rw (list_all-append, simple_holds s, simples_hold ss)

    pub range_holds : (r : RangeTree) → list_all test (range_by written r) ≡ list_all holds (terms r)
    range_holds empty = rw nothing_holds
    range_holds (simples first others) = simples_hold (first ∷ others)
    range_holds (hyphen left right) =
        let l = nothing_is (stated left) in
        let r = nothing_is (stated right) in
        grind (
          arith,
          table.left left,
          table.right right,
          simple_holds (left_side left),
          simple_holds (right_side right),
          simples_hold (left_side left ∷ []),
          simples_hold (right_side right ∷ []),
          simples_hold (left_side left ∷ right_side right ∷ []),
        )

-- a version satisfies the set of a tree if and only if it satisfies all terms of some range
pub set_meets_by : {fit : Simple → Bool} {written : Simple → List PlainComparator} (table : IsTable fit written) (mode : Compat)
    (v : PlainVersion) (meets : Term → Bool)
    → ((s : Simple) → list_all (meets_comparator v) (written s) ≡ meets (of_simple s))
    → is_ge (precedence v zero_version) ≡ meets of_nothing
    → (tree : SetTree) → meets_set v (set_by written mode tree) ≡ list_any (λ r. list_all meets (terms r)) tree
set_meets_by table mode v meets simple_meets nothing_meets =
    list_any-mapped _ _ _ (range_holds table _ meets simple_meets nothing_meets)

pub set_meets : (bound_pre : List IdentifierValue) (mode : Compat) (v : PlainVersion) (meets : Term → Bool)
    → ((s : Simple) → list_all (meets_comparator v) (written_simple bound_pre mode s) ≡ meets (of_simple s))
    → is_ge (precedence v zero_version) ≡ meets of_nothing
    → (tree : SetTree) → meets_set v (written_set bound_pre mode tree) ≡ list_any (λ r. list_all meets (terms r)) tree
set_meets bound_pre mode v meets simple_meets nothing_meets =
    set_meets_by (port_table bound_pre mode) mode v meets simple_meets nothing_meets

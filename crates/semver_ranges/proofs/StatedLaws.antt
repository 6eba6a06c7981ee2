-- By the default rule for pre-releases, a text and its comparators with exact bounds are satisfied
-- by the same versions.
use Rattle.std.proofs.Common.{arith}
use Rattle.std.proofs.lemmas.Bool.Decides.{nat_tests}
use Rattle.std.proofs.Common.{◌≡◌, ℕ, Bool, true, false, not, ◌&&◌, ◌||◌, ◌==◌, nat_eq, if◌then◌else◌, List, [], length, map}
use Rattle.std.proofs.Common.{refl, sym, ◌∙◌, IsTrue}
use Rattle.std.proofs.Math.Bool.{and-false, and-true}
use Rattle.std.proofs.lemmas.Bool.{and_parts}
use Rattle.std.specs.List.{list_all, list_any}
use Rattle.std.specs.Cmp.Lexicographic.{pointwise}
use Rattle.semver_ranges.specs.declared.range.Compat.{Compat}
use Rattle.semver_ranges.specs.declared.range.Compat.TheVariants.{Cargo, Npm}
use Rattle.semver_ranges.specs.declared.range.Op.TheVariants.{Lt}
use Rattle.semver_ranges.specs.declared.operator.Operator.{Operator}
use Rattle.semver_ranges.specs.declared.operator.Operator.TheVariants.{Bare}
use Rattle.semver_ranges.specs.RangeTree.{Simple, RangeTree, SetTree}
use Rattle.semver_texts.specs.Texts.{is_empty}
use Rattle.semver_texts.specs.Versions.{numbers, IdentifierValue, PlainVersion}
use Rattle.semver_ranges.specs.Partials.{kept, stated, pre_parts, pre_release, filled, zero_filled}
use Rattle.semver_ranges.specs.Terms.{Term, of_simple, terms}
use Rattle.semver_ranges.specs.CrateMeaning.{meets_term, meets_tree}
use Rattle.semver_ranges.specs.RewritingTable.{PlainComparator, Cell, from_zero, below_zero, against, below, between, cell}
use Rattle.semver_ranges.specs.RewritingTable.{three_stated, comparator, up_with, written_cell, written_simple, written_range}
use Rattle.semver_ranges.specs.ExactBounds.{lowest_pre_release, rewritten_exactly}
use Rattle.semver_ranges.specs.SatisfiedComparators.{has_pre_release, meets_comparator}
use Rattle.semver_ranges.specs.StatedPreReleases.{states_pre_release_at, counts_in, meets_tree_as_stated, has_pre_release_at}
use Rattle.semver_ranges.specs.StatedPreReleases.{meets_set_as_stated}
use Rattle.semver_ranges.proofs.Rows.{lower_tail, floor, Shape, none, one, two, three, exact_row}
use Rattle.semver_ranges.proofs.Tables.{port_table}
use Rattle.semver_ranges.proofs.SetMeanings.{stated_shape, range_holds}
use Rattle.semver_ranges.proofs.Tests.{list_any-weaker, list_any-same, list_any-mapped, some_of_all}

reorder : (x y w : Bool) → ((x && not y) && w) ≡ ((x && w) && not y)
reorder x y w = grind arith

-- whether a cell compares with the zero-filled version
abbrev with_z : Cell → Bool
with_z (against op) = true
with_z (between k) = true
with_z _ = false

-- each cell for three stated numbers does
three_with_z : (mode : Compat) (operator : Operator) (s : List ℕ) → with_z (three_stated mode operator s) ≡ true
three_with_z Cargo Bare s = refl
three_with_z Npm Bare s = refl
three_with_z _ _ s = refl

module _ (v : PlainVersion) where
  -- whether the version satisfies a comparator, and the comparator doesn't have the version's three
  -- numbers and a pre-release
  abbrev silent : PlainComparator → Bool
  silent c = meets_comparator v c && not (has_pre_release_at v c)

  silent_bound : (k : ℕ) (s : List ℕ) → let c : PlainComparator = comparator Lt (up_with lowest_pre_release k s) in
      silent c ≡ meets_comparator v c
  silent_bound k s = grind (arith, nat_tests, lower_tail (floor v.pre))

  -- if a version satisfies the comparators of a cell, only the comparator with z can have its three
  -- numbers and a pre-release
  silent_cell : (c : Cell) (s : List ℕ) (z : PlainVersion)
      → list_all silent (written_cell lowest_pre_release c s z)
      ≡ (list_all (meets_comparator v) (written_cell lowest_pre_release c s z)
      && not (with_z c && (has_pre_release z && pointwise nat_eq (numbers v) (numbers z))))
  silent_cell from_zero s z = refl
  silent_cell below_zero s z = refl
  silent_cell (against op) s z = grind arith
  silent_cell (below k) s z = rw silent_bound (sym (and-true _))
  silent_cell (between k) s z = rw (silent_bound k s) (search reorder)

  -- a cell compares with a z that has the version's numbers and a pre-release if and only if the
  -- partial version states both
  told : (mode : Compat) (operator : Operator) {s : List ℕ} → Shape s → (parts : List IdentifierValue)
      → let pre : List IdentifierValue = (if length s == 3 then parts else []) in
      (with_z (cell mode operator s) && (not (is_empty pre) && pointwise nat_eq (numbers v) (numbers (filled s pre))))
      ≡ (not (is_empty pre) && pointwise nat_eq (numbers v) s)
  told mode operator none parts = and-false _
  told mode operator (one x) parts = and-false _
  told mode operator (two x y) parts = and-false _
  told mode operator (three x y w) parts = rw (three_with_z mode operator _) refl

  module _ (mode : Compat) where
    abbrev meets : Term → Bool
    meets term = meets_term mode term v

    abbrev states : Term → Bool
    states term = states_pre_release_at term v

    met_simple : (s : Simple) → list_all (meets_comparator v) (written_simple lowest_pre_release mode s) ≡ meets (of_simple s)
    met_simple s = exact_row v mode s.operator (stated_shape s.partial) (pre_release s.partial)

    silent_simple : (s : Simple)
        → list_all silent (written_simple lowest_pre_release mode s) ≡ (meets (of_simple s) && not (states (of_simple s)))
    silent_simple s = silent_cell _ (stated s.partial) (zero_filled s.partial)
        ∙ rw (met_simple s, told mode s.operator (stated_shape s.partial) (map kept (pre_parts s.partial))) refl

    range_stated : (r : RangeTree) → let cs : List PlainComparator = written_range lowest_pre_release mode r in
        (list_all (meets_comparator v) cs && (is_empty v.pre || list_any (has_pre_release_at v) cs))
        ≡ (list_all meets (terms r) && counts_in r v)
    range_stated r = some_of_all (meets_comparator v) (has_pre_release_at v) (is_empty v.pre) (written_range lowest_pre_release mode r)
        ∙ rw (
          range_holds (port_table lowest_pre_release mode) (meets_comparator v) meets met_simple refl r,
          range_holds (port_table lowest_pre_release mode) silent (λ term. meets term && not (states term)) silent_simple refl r,
        ) (sym (some_of_all meets states (is_empty v.pre) (terms r)))

-- by the default rule, a version satisfies the comparators with exact bounds if and only if it
-- satisfies the text
pub some_stated : (mode : Compat) (tree : SetTree) (v : PlainVersion)
    → meets_set_as_stated v (rewritten_exactly mode tree) ≡ meets_tree_as_stated mode tree v
some_stated mode tree v = list_any-mapped _ _ _ (range_stated v mode) tree

-- a version that satisfies a text by the default rule also satisfies it without that rule
pub as_stated_means : (mode : Compat) (tree : SetTree) (v : PlainVersion) → IsTrue (meets_tree_as_stated mode tree v)
    → IsTrue (meets_tree mode tree v)
as_stated_means mode tree v = list_any-weaker _ _ (λ r met. (and_parts _ _ met).0) tree

-- a release satisfies a text by the default rule if and only if it does without that rule
pub stated_releases : (mode : Compat) (tree : SetTree) (v : PlainVersion) → v.pre ≡ []
    → meets_tree_as_stated mode tree v ≡ meets_tree mode tree v
stated_releases mode tree v e = list_any-same _ _ (λ r. rw e (and-true _)) tree

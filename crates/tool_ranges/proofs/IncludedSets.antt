-- With every pre-release within the bounds, the comparators that are printed for a tree of npm are
-- those of `rewritten_included`.
use Rattle.std.proofs.Common.{◌≡◌, [], ◌∷◌, refl}
use Rattle.std.specs.List.{flat_map}
use Rattle.semver_texts.proofs.Lists.{by_test}
use Rattle.semver_ranges.specs.declared.range.Compat.TheVariants as mode
use Rattle.semver_ranges.specs.Partials.{stated, states_nothing}
use Rattle.semver_ranges.specs.RangeTree.{RangeTree, SetTree, empty, hyphen, simples}
use Rattle.semver_ranges.specs.Steps.RangeEvents.{yielded}
use Rattle.semver_ranges.proofs.Tables.{nothing_is}
use Rattle.semver_ranges.specs.declared.rewriting.Style.TheVariants.{Lowest}
use Rattle.semver_ranges.specs.declared.dialect.Dialect.TheVariants.{Npm}
use Rattle.tool_ranges.specs.Rewritten.{included_range, rewritten_included}
use Rattle.semver_ranges.specs.TermComparators.{printed_term}
use Rattle.tool_ranges.specs.Steps.Printed.{printed_ranges}

range_is : (r : RangeTree) → flat_map (printed_term Lowest Npm) (yielded r) ≡ included_range r
range_is empty = refl
range_is (simples first others) = refl
range_is (hyphen l r) = by_test (states_nothing r)
    (λ y. by_test (states_nothing l) (λ z. rw (y, z, nothing_is (stated l) z) refl) (λ n. rw (y, n) refl))
    (λ n. by_test (states_nothing l) (λ z. rw (n, z) refl) (λ m. rw (n, m) refl))

pub included_ranges : (tree : SetTree) → printed_ranges Lowest Npm mode.Npm tree ≡ (rewritten_included tree).ranges
included_ranges [] = refl
included_ranges (r ∷ others) = λ i. record { comparators = range_is r i; compat = mode.Npm } ∷ included_ranges others i

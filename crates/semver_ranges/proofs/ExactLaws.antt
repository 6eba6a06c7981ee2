-- Which versions satisfy comparators with exact bounds, and which versions are below such a bound.
use Rattle.std.proofs.Common.{arith}
use Rattle.std.proofs.lemmas.Bool.Decides.{nat_tests}
use Rattle.std.proofs.Common.{◌≡◌, not, ◌&&◌, [], refl, Some}
use Rattle.std.specs.Ordering.{is_lt}
use Rattle.semver_ranges.specs.declared.range.Compat.{Compat}
use Rattle.semver_ranges.specs.RangeTree.{SetTree}
use Rattle.semver_texts.specs.Precedence.{precedence}
use Rattle.semver_texts.specs.Versions.{PlainVersion}
use Rattle.semver_ranges.specs.CrateMeaning.{meets_term, meets_tree}
use Rattle.semver_ranges.specs.ExactBounds.{lowest_pre_release, exact_bound, rewritten_exactly}
use Rattle.semver_ranges.specs.SatisfiedComparators.{meets_set, is_pre_release_of}
use Rattle.semver_ranges.proofs.Rows.{floor, lower_tail, exact_row}
use Rattle.semver_ranges.proofs.SetMeanings.{stated_shape, set_meets}

-- a version satisfies the set that a tree is rewritten to with exact bounds if and only if it
-- satisfies the tree
pub some_means : (mode : Compat) (tree : SetTree) (v : PlainVersion) → meets_set v (rewritten_exactly mode tree) ≡ meets_tree mode tree v
some_means mode tree v = set_meets lowest_pre_release mode v (λ term. meets_term mode term v)
    (λ s. exact_row v mode s.operator (stated_shape s.partial) _) refl tree

-- a version is below an exact bound if and only if it is below the bound itself and isn't a
-- pre-release of it
pub below_bound : (bound v : PlainVersion) → bound.pre ≡ []
    → is_lt (precedence v (exact_bound bound)) ≡ (is_lt (precedence v bound) && not (is_pre_release_of v (Some bound)))
below_bound bound v none = rw none (grind (arith, nat_tests, lower_tail (floor v.pre)))

-- The plain comparators that a range text in npm's dialect is rewritten to with node-semver's
-- `includePrerelease`.
use Rattle.std.specs.Prelude.{if◌then◌else◌, ◌&&◌, List, [], ◌∷◌, map}
use Rattle.std.specs.List.{flat_map}
use Rattle.semver_ranges.specs.declared.range.Compat.TheVariants.{Npm}
use Rattle.semver_ranges.specs.declared.range.Op.TheVariants.{Gte}
use Rattle.semver_ranges.specs.ExactBounds.{exact_bound}
use Rattle.semver_ranges.specs.Partials.{states_nothing, zero_version}
use Rattle.semver_ranges.specs.RangeTree.{Simple, RangeTree, empty, hyphen, simples, SetTree}
use Rattle.semver_ranges.specs.RewritingTable.{PlainComparator, PlainSet, comparator}
use Rattle.semver_ranges.specs.Terms as terms
use Rattle.semver_ranges.specs.declared.rewriting.Style.TheVariants.{Lowest}
use Rattle.semver_ranges.specs.declared.dialect.Dialect.TheVariants as dialect
use Rattle.semver_ranges.specs.TermComparators.{printed_term}

-- the comparators of a term. A lower bound that includes the pre-releases of its numbers is the
-- lowest of these, such as `>=1.2.0-0`, so it is right for pre-releases, too
abbrev pub included_simple : Simple → List PlainComparator
included_simple s = printed_term Lowest dialect.Npm s

-- the comparators of a range: of its terms, or of the sides of a hyphen range. It is `>=0.0.0-0` if
-- the range is empty, or if both sides state nothing
abbrev pub included_range : RangeTree → List PlainComparator
included_range empty = comparator Gte (exact_bound zero_version) ∷ []
included_range (hyphen left right) =
    if states_nothing left && states_nothing right
    then comparator Gte (exact_bound zero_version) ∷ []
    else flat_map included_simple (terms.sides left right)
included_range (simples first others) = flat_map included_simple (first ∷ others)

-- the set that a text is rewritten to: its ranges in order, in npm mode
abbrev pub rewritten_included : SetTree → PlainSet
rewritten_included tree =
    record {
      ranges = map (λ r. record { comparators = included_range r; compat = Npm }) tree;
      compat = Npm;
    }

-- The default rule of npm and of Cargo's `semver` for pre-releases: a pre-release satisfies a range
-- only if some term of that range states its three numbers and a pre-release. The rule is defined
-- first for a text, from its terms only, and then for comparators.
use Rattle.std.specs.Prelude.{Bool, false, not, ◌&&◌, ◌||◌, nat_eq}
use Rattle.std.specs.List.{list_any, list_all}
use Rattle.std.specs.Cmp.Lexicographic.{pointwise}
use Rattle.semver_ranges.specs.declared.range.Compat.{Compat}
use Rattle.semver_ranges.specs.RangeTree.{RangeTree, SetTree}
use Rattle.semver_texts.specs.Texts.{is_empty}
use Rattle.semver_texts.specs.Versions.{numbers, PlainVersion}
use Rattle.semver_ranges.specs.Partials.{stated, pre_release}
use Rattle.semver_ranges.specs.Terms.{Term, of_simple, of_nothing, terms}
use Rattle.semver_ranges.specs.CrateMeaning.{meets_term}
use Rattle.semver_ranges.specs.RewritingTable.{PlainComparator, PlainRange, PlainSet}
use Rattle.semver_ranges.specs.SatisfiedComparators.{has_pre_release, meets_range}

-- whether a term states the three numbers of a version, and a pre-release
abbrev pub states_pre_release_at : Term → PlainVersion → Bool
states_pre_release_at (of_simple s) v =
    not (is_empty (pre_release s.partial)) && pointwise nat_eq (numbers v) (stated s.partial)
states_pre_release_at of_nothing v = false

-- whether the default rule admits a version in a range: it admits every release, and a pre-release
-- if some term of the range states its three numbers and a pre-release
abbrev pub counts_in : RangeTree → PlainVersion → Bool
counts_in range v =
    is_empty v.pre || list_any (λ term. states_pre_release_at term v) (terms range)

-- whether a version satisfies a text by the default rule: it satisfies all terms of some range in
-- which the rule admits it
abbrev pub meets_tree_as_stated : Compat → SetTree → PlainVersion → Bool
meets_tree_as_stated mode tree v =
    list_any
    (λ range. list_all (λ term. meets_term mode term v) (terms range) && counts_in range v)
    tree

-- whether a comparator has the three numbers of a version, and a pre-release
abbrev pub has_pre_release_at : PlainVersion → PlainComparator → Bool
has_pre_release_at v c =
    has_pre_release c.version && pointwise nat_eq (numbers v) (numbers c.version)

-- whether the default rule admits a version in a range of comparators: it admits every release, and
-- a pre-release if some comparator has its three numbers and a pre-release
abbrev pub counts_beside : PlainVersion → PlainRange → Bool
counts_beside v r = is_empty v.pre || list_any (has_pre_release_at v) r.comparators

-- whether a version satisfies a range of comparators by the default rule: it satisfies all of them,
-- and the rule admits it
abbrev pub meets_range_as_stated : PlainVersion → PlainRange → Bool
meets_range_as_stated v r = meets_range v r && counts_beside v r

-- whether a version satisfies a set of comparators by the default rule: it satisfies some range of
-- the set by this rule
abbrev pub meets_set_as_stated : PlainVersion → PlainSet → Bool
meets_set_as_stated v s = list_any (meets_range_as_stated v) s.ranges

-- Which versions satisfy comparators, and which pre-releases the comparators of a text add to its
-- meaning.
use Rattle.std.specs.Prelude.{Bool, false, ◌&&◌, ◌||◌, not, Option, Some, None, nat_eq}
use Rattle.std.specs.List.{list_any, list_all}
use Rattle.std.specs.Ordering.{is_eq, is_lt, is_gt, is_le, is_ge}
use Rattle.std.specs.Cmp.Lexicographic.{pointwise}
use Rattle.std.specs.declared.cmp.Ordering.{Ordering}
use Rattle.semver_ranges.specs.declared.range.Op.{Op}
use Rattle.semver_ranges.specs.declared.range.Op.TheVariants.{Lt, Lte, Gt, Gte, Eq}
use Rattle.semver_ranges.specs.declared.range.Compat.{Compat}
use Rattle.semver_ranges.specs.RangeTree.{SetTree}
use Rattle.semver_texts.specs.Texts.{is_empty}
use Rattle.semver_texts.specs.Precedence.{precedence}
use Rattle.semver_texts.specs.Versions.{numbers, PlainVersion}
use Rattle.semver_ranges.specs.Terms.{Term, terms}
use Rattle.semver_ranges.specs.CrateMeaning.{meets_term}
use Rattle.semver_ranges.specs.RewritingTable.{PlainComparator, PlainRange, PlainSet, raised_bound}

-- whether the result of a comparison satisfies an operator
abbrev pub op_holds : Op → Ordering → Bool
op_holds Lt o = is_lt o
op_holds Lte o = is_le o
op_holds Gt o = is_gt o
op_holds Gte o = is_ge o
op_holds Eq o = is_eq o

-- whether a version satisfies a comparator, by precedence
abbrev pub meets_comparator : PlainVersion → PlainComparator → Bool
meets_comparator v c = op_holds c.op (precedence v c.version)

-- whether a version satisfies a range: it satisfies all its comparators. A range without
-- comparators is satisfied by every version
abbrev pub meets_range : PlainVersion → PlainRange → Bool
meets_range v r = list_all (meets_comparator v) r.comparators

-- whether a version satisfies a set: it satisfies some range of it. A set without ranges is
-- satisfied by no version
abbrev pub meets_set : PlainVersion → PlainSet → Bool
meets_set v s = list_any (meets_range v) s.ranges

-- whether a version has a pre-release
abbrev pub has_pre_release : PlainVersion → Bool
has_pre_release v = not (is_empty v.pre)

-- whether a version is a pre-release of this bound: it has a pre-release, and the three numbers of
-- the bound. Without a bound it isn't
abbrev pub is_pre_release_of : PlainVersion → Option PlainVersion → Bool
is_pre_release_of v None = false
is_pre_release_of v (Some bound) = has_pre_release v && pointwise nat_eq (numbers v) (numbers bound)

-- whether a version satisfies a term, or is a pre-release of the term's raised bound
abbrev pub meets_term_or_bound : Compat → Term → PlainVersion → Bool
meets_term_or_bound mode term v =
    meets_term mode term v || is_pre_release_of v (raised_bound mode term)

-- whether there is a range such that, for each of its terms, the version satisfies the term or is a
-- pre-release of the term's raised bound
abbrev pub meets_tree_or_bounds : Compat → SetTree → PlainVersion → Bool
meets_tree_or_bounds mode tree v =
    list_any (λ range. list_all (λ term. meets_term_or_bound mode term v) (terms range)) tree

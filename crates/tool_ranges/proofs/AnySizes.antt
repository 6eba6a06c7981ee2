-- Comparators with identifiers of digits as numbers of any size.
use Rattle.std.proofs.Common.{◌≡◌, ℕ, true, ◌&&◌, ◌||◌, ◌==◌, List, [], ◌∷◌, map, refl, ap}
use Rattle.std.specs.List.{list_all, list_any}
use Rattle.semver_texts.specs.Digits.{any_size, plain_by}
use Rattle.semver_texts.specs.Texts.{is_empty}
use Rattle.semver_texts.specs.Versions.{IdentifierValue, PlainVersion, numbers}
use Rattle.semver_texts.specs.declared.grammar.Digits.TheVariants.{AnySize}
use Rattle.semver_ranges.specs.declared.operator.Operator.{Operator}
use Rattle.semver_ranges.specs.RangeTree.{PartialTree}
use Rattle.semver_ranges.specs.Partials.{pre_release}
use Rattle.semver_ranges.specs.SatisfiedComparators.{meets_comparator, meets_range, meets_set, op_holds}
use Rattle.semver_ranges.specs.RewritingTable.{PlainComparator, PlainRange, PlainSet}
use Rattle.version_sets.proofs.DigitLaws.{by_empty, released}
use Rattle.tool_ranges.specs.AnySize.{comparator_any, range_any, set_any}
use Rattle.tool_ranges.specs.NpmMeaning.{asks_nothing_by, is_zero}

-- the pre-release of a partial version, with identifiers of digits as numbers of any size
abbrev pub pre_any : PartialTree → List IdentifierValue
pre_any p = map any_size (pre_release p)

-- ---- releases

release_comparator : (v : PlainVersion) (c : PlainComparator) → is_empty v.pre ≡ true
    → meets_comparator v (comparator_any c) ≡ meets_comparator v c
release_comparator v c e = ap (op_holds c.op) (released AnySize v c.version e)

release_comparators : (v : PlainVersion) (cs : List PlainComparator) → is_empty v.pre ≡ true
    → list_all (meets_comparator v) (map comparator_any cs) ≡ list_all (meets_comparator v) cs
release_comparators v [] e = refl
release_comparators v (c ∷ cs) e = λ i. release_comparator v c e i && release_comparators v cs e i

release_ranges : (v : PlainVersion) (rs : List PlainRange) → is_empty v.pre ≡ true
    → list_any (meets_range v) (map range_any rs) ≡ list_any (meets_range v) rs
release_ranges v [] e = refl
release_ranges v (r ∷ rs) e = λ i. release_comparators v r.comparators e i || release_ranges v rs e i

-- a release satisfies a set with such identifiers if and only if it satisfies the set itself
pub release_set : (v : PlainVersion) (s : PlainSet) → is_empty v.pre ≡ true → meets_set v (set_any s) ≡ meets_set v s
release_set v s e = release_ranges v s.ranges e

-- ---- terms that match everything in npm's dialect

pub zero_any : (v : PlainVersion) → is_zero (plain_by AnySize v) ≡ is_zero v
zero_any v = ap (λ b. list_all (λ n. n == 0) (numbers v) && b) (by_empty AnySize v.pre)

pub asks_any : (operator : Operator) (s : List ℕ) (z : PlainVersion)
    → asks_nothing_by operator (is_empty s) (is_zero (plain_by AnySize z)) ≡ asks_nothing_by operator (is_empty s) (is_zero z)
asks_any operator s z = ap (asks_nothing_by operator (is_empty s)) (zero_any z)

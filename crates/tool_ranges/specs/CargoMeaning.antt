-- Which versions satisfy a requirement in Cargo's dialect, under each rule for pre-releases. This
-- is defined by agreement with the stated numbers, and by precedence against the zero-filled
-- version. By default, a pre-release counts only if some comparator states its three numbers and a
-- pre-release. Cargo has no rule by which every pre-release within the bounds counts. Here, the
-- rule `Included` is precedence against the comparators of `cargo::rewrite`, but a lower bound of
-- fewer than three numbers begins with the lowest pre-release, such as `>=1.2.0-0`.
use Rattle.std.specs.Prelude.{ℕ, Bool, true, ◌&&◌, ◌||◌, List, [], ◌∷◌}
use Rattle.std.specs.Prelude.{length, take}
use Rattle.std.specs.List.{list_all, list_any}
use Rattle.std.specs.Ordering.{nat_cmp, is_eq, is_lt, is_gt, is_ge}
use Rattle.std.specs.Cmp.Lexicographic.{slice_cmp}
use Rattle.std.specs.declared.cmp.Ordering.{Ordering}
use Rattle.semver_ranges.specs.declared.range.Compat.TheVariants.{Cargo}
use Rattle.semver_texts.specs.Precedence.{precedence}
use Rattle.semver_texts.specs.Texts.{is_empty}
use Rattle.semver_texts.specs.Versions.{numbers, PlainVersion}
use Rattle.semver_ranges.specs.declared.operator.Operator.{Operator}
use Rattle.semver_ranges.specs.declared.operator.Operator.TheVariants.{Less, LessOrEqual, Greater}
use Rattle.semver_ranges.specs.declared.operator.Operator.TheVariants.{GreaterOrEqual, Caret}
use Rattle.semver_ranges.specs.declared.operator.Operator.TheVariants.{Hyphen}
use Rattle.semver_ranges.specs.RangeTree.{Simple, SetTree}
use Rattle.semver_ranges.specs.Partials.{stated}
use Rattle.semver_ranges.specs.Terms.{of_simple}
use Rattle.semver_ranges.specs.CrateMeaning.{agrees_past_zeros, meets_operator}
use Rattle.semver_ranges.specs.StatedPreReleases.{states_pre_release_at}
use Rattle.version_sets.specs.declared.rules.PreReleases.{PreReleases}
use Rattle.version_sets.specs.declared.rules.PreReleases.TheVariants.{ByDialect, Included, Excluded}
use Rattle.tool_ranges.specs.AnySize.{zero_filled_any}
use Rattle.semver_ranges.specs.CargoGrammar.{as_read, comparators_of}

-- how the first numbers of a version, as many as are stated, compare with the stated numbers
abbrev pub against : List ℕ → PlainVersion → Ordering
against s v = slice_cmp nat_cmp (take (length s) (numbers v)) s

-- whether a version that has the stated numbers satisfies a term such as `=1.2`: every one does
-- with `Included`, otherwise only a release
abbrev pub is_one : PreReleases → PlainVersion → Bool
is_one Included v = true
is_one _ v = is_empty v.pre

-- whether a version has the stated numbers, and satisfies a term such as `=1.2`
abbrev pub is_one_of : PreReleases → List ℕ → PlainVersion → Bool
is_one_of rule s v = is_eq (against s v) && is_one rule v

-- whether a version is below one or two stated numbers: with `Included` it is below the zero-filled
-- version, otherwise its first numbers are below the stated ones
abbrev pub is_below_some : PreReleases → List ℕ → PlainVersion → PlainVersion → Bool
is_below_some Included s z v = is_lt (precedence v z)
is_below_some _ s z v = is_lt (against s v)

-- whether a version satisfies a comparator with one or two stated numbers. No comparator has the
-- operator `Hyphen`, since Cargo has no hyphen ranges
abbrev pub meets_some_stated : PreReleases → Operator → List ℕ → PlainVersion → PlainVersion → Bool
meets_some_stated rule Less s z v = is_below_some rule s z v
meets_some_stated rule Greater s z v = is_gt (against s v)
meets_some_stated rule LessOrEqual s z v = is_lt (against s v) || is_one_of rule s v
meets_some_stated rule GreaterOrEqual s z v = is_gt (against s v) || is_one_of rule s v
meets_some_stated rule Hyphen s z v = is_gt (against s v) || is_one_of rule s v
meets_some_stated rule Caret s z v = is_ge (against s v) && agrees_past_zeros s (numbers v)
meets_some_stated rule _ s z v = is_one_of rule s v

-- whether a version satisfies a comparator, by how many numbers are stated. If none is, each
-- release does, and with `Included` each version. If three are, it is as in the crate's Cargo mode
abbrev pub meets_by_count : PreReleases → Operator → List ℕ → PlainVersion → PlainVersion → Bool
meets_by_count rule operator [] z v = is_one rule v
meets_by_count rule operator (a ∷ []) z v = meets_some_stated rule operator (a ∷ []) z v
meets_by_count rule operator (a ∷ b ∷ []) z v = meets_some_stated rule operator (a ∷ b ∷ []) z v
meets_by_count rule operator (a ∷ b ∷ c ∷ rest) z v =
    meets_operator Cargo operator (a ∷ b ∷ c ∷ rest) z v

-- whether a version satisfies a comparator
abbrev pub meets_one : PreReleases → Simple → PlainVersion → Bool
meets_one rule s v =
    meets_by_count rule (as_read s).operator (stated s.partial) (zero_filled_any s.partial) v

-- whether a version counts by default: each release does, and a pre-release does if some comparator
-- states its three numbers and a pre-release
abbrev pub counts : SetTree → PlainVersion → Bool
counts tree v =
    is_empty v.pre || list_any (λ s. states_pre_release_at (of_simple s) v) (comparators_of tree)

-- whether a version satisfies a requirement by default: it satisfies each comparator, and it counts
abbrev pub meets_by_default : SetTree → PlainVersion → Bool
meets_by_default tree v =
    list_all (λ s. meets_one ByDialect s v) (comparators_of tree) && counts tree v

-- whether a version satisfies a requirement under a rule. With `Excluded`, it is a release that
-- satisfies the requirement by default
abbrev pub meets_requirement : PreReleases → SetTree → PlainVersion → Bool
meets_requirement ByDialect tree v = meets_by_default tree v
meets_requirement Included tree v = list_all (λ s. meets_one Included s v) (comparators_of tree)
meets_requirement Excluded tree v = is_empty v.pre && meets_by_default tree v

-- Which versions satisfy a range text in npm's dialect, under each rule for pre-releases. This is
-- defined by agreement with the stated numbers, and by precedence against the zero-filled version.
-- By default, a pre-release counts only if a term of the same range states its three numbers and a
-- pre-release. The rule `Included` is `includePrerelease` of node-semver.
use Rattle.std.specs.Prelude.{ℕ, Bool, true, false, ◌&&◌, ◌||◌, ◌==◌, if◌then◌else◌, List, []}
use Rattle.std.specs.Prelude.{◌∷◌, length}
use Rattle.std.specs.List.{list_all, list_any}
use Rattle.std.specs.Ordering.{is_eq, is_lt, is_gt, is_le, is_ge}
use Rattle.semver_texts.specs.Texts.{is_empty}
use Rattle.semver_texts.specs.Precedence.{precedence}
use Rattle.semver_texts.specs.Versions.{numbers, PlainVersion}
use Rattle.semver_ranges.specs.declared.operator.Operator.{Operator}
use Rattle.semver_ranges.specs.declared.operator.Operator.TheVariants.{Less, LessOrEqual, Greater}
use Rattle.semver_ranges.specs.declared.operator.Operator.TheVariants.{GreaterOrEqual, Tilde, Caret}
use Rattle.semver_ranges.specs.declared.operator.Operator.TheVariants.{Hyphen}
use Rattle.semver_ranges.specs.RangeTree.{Simple, SetTree, RangeTree, empty, hyphen, simples}
use Rattle.semver_ranges.specs.Partials.{stated, states_nothing, zero_filled}
use Rattle.semver_ranges.specs.Terms.{Term, of_simple, of_nothing, left_side, right_side, terms}
use Rattle.semver_ranges.specs.CrateMeaning.{agrees, agrees_past_zeros}
use Rattle.semver_ranges.specs.RewritingTable.{up}
use Rattle.semver_ranges.specs.StatedPreReleases.{counts_in}
use Rattle.version_sets.specs.declared.rules.PreReleases.{PreReleases}
use Rattle.version_sets.specs.declared.rules.PreReleases.TheVariants.{ByDialect, Included, Excluded}
use Rattle.tool_ranges.specs.AnySize.{zero_filled_any}
use Rattle.tool_ranges.specs.CargoMeaning.{against}

-- whether a version is 0.0.0, which by default is not a lower bound in npm's dialect
abbrev pub is_zero : PlainVersion → Bool
is_zero z = list_all (λ n. n == 0) (numbers z) && is_empty z.pre

-- whether a version is not below the zero-filled version. If that is 0.0.0, it is no lower bound,
-- except with `Included`
abbrev pub is_from : PreReleases → PlainVersion → PlainVersion → Bool
is_from Included z v = is_ge (precedence v z)
is_from _ z v = is_zero z || is_ge (precedence v z)

-- whether a version is not below the zero-filled version, or, if that has no pre-release, whether
-- its numbers are not below the stated ones
abbrev pub is_from_numbers : List ℕ → PlainVersion → PlainVersion → Bool
is_from_numbers s z v = if is_empty z.pre then is_ge (against s v) else is_ge (precedence v z)

-- whether a version is not below the lower bound of a term with one or two stated numbers. With
-- `Included`, the bound includes the pre-releases of these numbers, except for `~`
abbrev pub begins_some : PreReleases → Operator → List ℕ → PlainVersion → PlainVersion → Bool
begins_some Included Tilde s z v = is_ge (precedence v z)
begins_some Included operator s z v = is_ge (against s v)
begins_some rule operator s z v = is_from rule z v

-- whether a version is not below the lower bound of a term with three stated numbers. With
-- `Included`, two bounds include the pre-releases of these numbers, unless a pre-release is stated:
-- that of `^` with the first number 0, and that of the left side of a hyphen range
abbrev pub begins_three : PreReleases → Operator → List ℕ → PlainVersion → PlainVersion → Bool
begins_three Included Caret s z v =
    if z.major == 0 then is_from_numbers s z v else is_ge (precedence v z)
begins_three Included Hyphen s z v = is_from_numbers s z v
begins_three rule operator s z v = is_from rule z v

-- whether a version satisfies a term that states nothing: none does for `<` and `>`, and every
-- version does for the others
abbrev pub meets_nothing_stated : Operator → Bool
meets_nothing_stated Less = false
meets_nothing_stated Greater = false
meets_nothing_stated _ = true

-- whether a version is above one or two stated numbers: with `Included` its first numbers are
-- above, otherwise it is not below the version in which the last stated number is raised
abbrev pub is_above_some : PreReleases → List ℕ → PlainVersion → Bool
is_above_some Included s v = is_gt (against s v)
is_above_some _ s v = is_ge (precedence v (up (length s) s))

-- whether a version satisfies a term with one or two stated numbers. For `<` and `<=`, only as many
-- of its numbers are compared
abbrev pub meets_some_stated : PreReleases → Operator → List ℕ → PlainVersion → PlainVersion → Bool
meets_some_stated rule Less s z v = is_lt (against s v)
meets_some_stated rule LessOrEqual s z v = is_le (against s v)
meets_some_stated rule Greater s z v = is_above_some rule s v
meets_some_stated rule GreaterOrEqual s z v = begins_some rule GreaterOrEqual s z v
meets_some_stated rule Hyphen s z v = begins_some rule Hyphen s z v
meets_some_stated rule Caret s z v =
    begins_some rule Caret s z v && agrees_past_zeros s (numbers v)
meets_some_stated rule operator s z v = begins_some rule operator s z v && agrees (length s) s v

-- whether a version satisfies a term with three stated numbers
abbrev pub meets_three_stated : PreReleases → Operator → List ℕ → PlainVersion → PlainVersion → Bool
meets_three_stated rule Less s z v = is_lt (precedence v z)
meets_three_stated rule LessOrEqual s z v = is_le (precedence v z)
meets_three_stated rule Greater s z v = is_gt (precedence v z)
meets_three_stated rule GreaterOrEqual s z v = begins_three rule GreaterOrEqual s z v
meets_three_stated rule Hyphen s z v = begins_three rule Hyphen s z v
meets_three_stated rule Tilde s z v = begins_three rule Tilde s z v && agrees 2 s v
meets_three_stated rule Caret s z v =
    begins_three rule Caret s z v && agrees_past_zeros s (numbers v)
meets_three_stated rule _ s z v = is_eq (precedence v z)

abbrev pub meets_by_count : PreReleases → Operator → List ℕ → PlainVersion → PlainVersion → Bool
meets_by_count rule operator [] z v = meets_nothing_stated operator
meets_by_count rule operator (a ∷ []) z v = meets_some_stated rule operator (a ∷ []) z v
meets_by_count rule operator (a ∷ b ∷ []) z v = meets_some_stated rule operator (a ∷ b ∷ []) z v
meets_by_count rule operator (a ∷ b ∷ c ∷ rest) z v =
    meets_three_stated rule operator (a ∷ b ∷ c ∷ rest) z v

-- whether a version satisfies a term
abbrev pub meets_one : PreReleases → Simple → PlainVersion → Bool
meets_one rule s v =
    meets_by_count rule s.operator (stated s.partial) (zero_filled_any s.partial) v

-- whether a version satisfies a range: each of its terms, or both sides of a hyphen range. Every
-- version satisfies an empty range
abbrev pub meets_range : PreReleases → RangeTree → PlainVersion → Bool
meets_range rule empty v = true
meets_range rule (hyphen left right) v =
    meets_one rule (left_side left) v && meets_one rule (right_side right) v
meets_range rule (simples first others) v = list_all (λ s. meets_one rule s v) (first ∷ others)

-- whether a term matches everything for npm's default rule, by whether it states nothing, and
-- whether its zero-filled version is 0.0.0: `<` and `>` never do, `>=` and the left side of a
-- hyphen range do if that version is 0.0.0, and the others do if nothing is stated
abbrev pub asks_nothing_by : Operator → Bool → Bool → Bool
asks_nothing_by Less none zero = false
asks_nothing_by Greater none zero = false
asks_nothing_by GreaterOrEqual none zero = zero
asks_nothing_by Hyphen none zero = zero
asks_nothing_by _ none zero = none

-- whether a term matches everything for npm's default rule; an empty range does
abbrev pub matches_everything : Term → Bool
matches_everything (of_simple s) =
    asks_nothing_by s.operator (states_nothing s.partial) (is_zero (zero_filled s.partial))
matches_everything of_nothing = true

-- whether each term of a range matches everything
abbrev pub is_every_release : RangeTree → Bool
is_every_release range = list_all matches_everything (terms range)

-- whether a version satisfies a text by default. If some range matches everything, each release
-- does and no pre-release. Otherwise the version has to satisfy some range, and to count in it
abbrev pub meets_by_default : SetTree → PlainVersion → Bool
meets_by_default tree v =
    if list_any is_every_release tree then is_empty v.pre
    else list_any (λ range. meets_range ByDialect range v && counts_in range v) tree

-- whether a version satisfies a text under a rule. With `Excluded`, it is a release that satisfies
-- the text by default
abbrev pub meets_npm : PreReleases → SetTree → PlainVersion → Bool
meets_npm ByDialect tree v = meets_by_default tree v
meets_npm Included tree v = list_any (λ range. meets_range Included range v) tree
meets_npm Excluded tree v = is_empty v.pre && meets_by_default tree v

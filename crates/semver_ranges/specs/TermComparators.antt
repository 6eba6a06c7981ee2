-- The comparators of a term: those of the two sides between which its versions are.
use Rattle.std.specs.Prelude.{◌++◌, ◌&&◌, List, [], ◌∷◌, not, Option, Some, None}
use Rattle.std.specs.Prelude.{if◌then◌else◌, is_some}
use Rattle.semver_texts.specs.Texts.{is_empty}
use Rattle.semver_texts.specs.Versions.{numbers, IdentifierValue, PlainVersion}
use Rattle.semver_ranges.specs.declared.dialect.Dialect.{Dialect}
use Rattle.semver_ranges.specs.declared.range.Op.TheVariants.{Lt, Lte, Gt, Gte, Eq}
use Rattle.semver_ranges.specs.declared.rewriting.Style.{Style}
use Rattle.semver_ranges.specs.declared.rewriting.Style.TheVariants.{Plain, Lowest}
use Rattle.semver_ranges.specs.RangeTree.{Simple}
use Rattle.semver_ranges.specs.Partials.{stated, zero_filled}
use Rattle.semver_ranges.specs.ExactBounds.{exact_bound, lowest_pre_release}
use Rattle.semver_ranges.specs.RewritingTable.{PlainComparator, comparator, up, up_with}
use Rattle.semver_ranges.specs.Sides.{SideValue, below, at, past, above, ends_past, sides}

-- the comparator of a lower side. With `Lowest` it is right for all versions. Otherwise those of
-- `below` and `above` are right only for releases: they leave out the pre-releases of their numbers
abbrev pub lower_comparator : Style → SideValue → PlainVersion → PlainComparator
lower_comparator Lowest (above k) z = comparator Gte (exact_bound (up k (numbers z)))
lower_comparator style (above k) z = comparator Gte (up k (numbers z))
lower_comparator Lowest below z = comparator Gte (exact_bound z)
lower_comparator style below z = comparator Gte z
lower_comparator style past z = comparator Gt z
lower_comparator style at z = comparator Gte z

-- the pre-release of a raised upper bound, and below, the comparator of an upper side
abbrev pub pre_of : Style → List IdentifierValue
pre_of Plain = []
pre_of style = lowest_pre_release

abbrev pub upper_comparator : Style → SideValue → PlainVersion → PlainComparator
upper_comparator style (above k) z = comparator Lt (up_with (pre_of style) k (numbers z))
upper_comparator style past z = comparator Lte z
upper_comparator style at z = comparator Lt z
upper_comparator style below z = comparator Lt (exact_bound z)

-- the comparator of a side, if there is one
abbrev pub at_side : (SideValue → PlainVersion → PlainComparator) → Option SideValue → PlainVersion
    → List PlainComparator
at_side comparator_of None z = []
at_side comparator_of (Some side) z = comparator_of side z ∷ []

-- the comparators of two sides. If there is a lower side, and the upper one is directly above the
-- version, only the version is between them
abbrev pub printed : Style → Option SideValue → Option SideValue → PlainVersion
    → List PlainComparator
printed style first last z =
    if is_some first && ends_past last then comparator Eq z ∷ []
    else at_side (lower_comparator style) first z ++ at_side (upper_comparator style) last z

-- the comparators of a term
abbrev pub printed_term : Style → Dialect → Simple → List PlainComparator
printed_term style dialect s =
    printed style
    (sides dialect s.operator (stated s.partial) (not (is_empty (zero_filled s.partial).pre))).0
    (sides dialect s.operator (stated s.partial) (not (is_empty (zero_filled s.partial).pre))).1
    (zero_filled s.partial)

-- The versions of one kind in a set as ranges of plain comparators, one for each interval, and the
-- text of these ranges.
use Rattle.std.specs.Prelude.{◌≡◌, ◌+◌, ◌==◌, Bool, true, false, ◌&&◌, if◌then◌else◌, IsTrue}
use Rattle.std.specs.Prelude.{Option, Some, None, List, [], ◌∷◌, ◌++◌, codes, map, option_map}
use Rattle.std.specs.Ordering.{is_eq}
use Rattle.semver_ranges.specs.declared.range.Op.{Op}
use Rattle.semver_ranges.specs.declared.range.Op.TheVariants.{Lt, Gte, Eq}
use Rattle.semver_ranges.specs.declared.range.Compat.TheVariants.{Npm}
use Rattle.semver_texts.specs.Texts.{Text, is_empty, joined}
use Rattle.semver_texts.specs.Versions.{IdentifierValue, numeric, PlainVersion}
use Rattle.semver_texts.specs.Precedence.{precedence}
use Rattle.semver_ranges.specs.Partials.{fits_u64}
use Rattle.semver_ranges.specs.RangeTree.{SetTree, Spells}
use Rattle.semver_ranges.specs.RewritingTable.{PlainComparator, PlainRange, PlainSet, comparator}
use Rattle.semver_ranges.specs.RewritingTable.{fits, rewritten}
use Rattle.semver_ranges.specs.SatisfiedComparators.{meets_set}
use Rattle.semver_ranges.specs.PrintedRanges.{comparator_text, set_text}
use Rattle.version_sets.specs.VersionSets.{SetValue, contains}

-- the release right above a release, if there is one: 1.2.4 above 1.2.3, and none above the highest
abbrev pub next_release : PlainVersion → Option PlainVersion
next_release v =
    if fits_u64 (v.patch + 1) then Some (record v { patch = v.patch + 1 })
    else (if fits_u64 (v.minor + 1) then Some (record v { minor = v.minor + 1; patch = 0 })
    else (if fits_u64 (v.major + 1)
    then Some (record v { major = v.major + 1; minor = 0; patch = 0 }) else None))

-- the pre-release right above a pre-release: 1.2.3-a.0 above 1.2.3-a
abbrev pub next_pre_release : PlainVersion → Option PlainVersion
next_pre_release v = Some (record v { pre = v.pre ++ numeric 0 ∷ [] })

-- whether there is no pre-release, or only the lowest, `0`
abbrev pub is_lowest_pre : List IdentifierValue → Bool
is_lowest_pre [] = true
is_lowest_pre (numeric n ∷ []) = n == 0
is_lowest_pre _ = false

-- whether a version is the lowest release or the lowest pre-release: 0.0.0 or 0.0.0-0
abbrev pub is_lowest : PlainVersion → Bool
is_lowest v = (v.major == 0) && ((v.minor == 0) && ((v.patch == 0) && is_lowest_pre v.pre))

-- whether two ends of intervals are equal in precedence, or both are missing
abbrev pub is_same_end : Option PlainVersion → Option PlainVersion → Bool
is_same_end None None = true
is_same_end (Some v) (Some w) = is_eq (precedence v w)
is_same_end _ _ = false

-- the version below which an interval of releases ends: its end
abbrev pub release_end : PlainVersion → PlainVersion → PlainVersion
release_end from to = to

-- the lowest pre-release of a version's numbers
abbrev pub lowest_pre_release : PlainVersion → PlainVersion
lowest_pre_release v = record v { pre = numeric 0 ∷ [] }

-- the lowest pre-release of the numbers right above those of a version, if there are any: 1.2.4-0
-- for 1.2.3-a
abbrev pub pre_release_above : PlainVersion → Option PlainVersion
pre_release_above v =
    option_map lowest_pre_release (next_release (record v { pre = [] }))

-- the version below which an interval of pre-releases ends: its end. But if the interval has all
-- remaining pre-releases of the numbers with which it begins, and no others, it ends below the
-- release with these numbers, as a reader expects: `>=1.2.3-a <1.2.3`, and not `<1.2.4-0`
abbrev pub pre_release_end : PlainVersion → PlainVersion → PlainVersion
pre_release_end from to =
    if is_same_end (Some to) (pre_release_above from) then record from { pre = [] } else to

-- the comparators of an interval, which begins with a version and ends below another, if there is
-- one. If there is an end, the lowest version is not written as a bound, since no version is below
-- it
abbrev pub bound_comparators : (PlainVersion → PlainVersion → PlainVersion) → PlainVersion
    → Option PlainVersion → List PlainComparator
bound_comparators end from None = comparator Gte from ∷ []
bound_comparators end from (Some to) =
    if is_lowest from then comparator Lt (end from to) ∷ []
    else (comparator Gte from ∷ comparator Lt (end from to) ∷ [])

-- the version right above a version, and the version below which an interval ends
pub record Kind : Type 0 where
  pub next : PlainVersion → Option PlainVersion
  pub end : PlainVersion → PlainVersion → PlainVersion

abbrev pub of_releases : Kind
of_releases = record { next = next_release; end = release_end }

abbrev pub of_pre_releases : Kind
of_pre_releases = record { next = next_pre_release; end = pre_release_end }

-- the comparators of an interval: `=` if it has only one version, otherwise its bounds
abbrev pub interval : Kind → PlainVersion → Option PlainVersion → List PlainComparator
interval kind from to =
    if is_same_end to (kind.next from) then comparator Eq from ∷ []
    else bound_comparators kind.end from to

-- comparators as a range in npm mode
abbrev pub npm_range : List PlainComparator → PlainRange
npm_range comparators = record { comparators = comparators; compat = Npm }

-- a range for each interval, which begins at one boundary and ends at the next, if there is one
abbrev pub intervals : Kind → List PlainVersion → List PlainRange
intervals kind [] = []
intervals kind (from ∷ []) = npm_range (interval kind from None) ∷ []
intervals kind (from ∷ to ∷ boundaries) =
    npm_range (interval kind from (Some to)) ∷ intervals kind boundaries

-- ranges as a set in npm mode
abbrev pub npm_set : List PlainRange → PlainSet
npm_set ranges = record { ranges = ranges; compat = Npm }

-- the ranges of the releases in a set
abbrev pub release_ranges : SetValue → PlainSet
release_ranges set = npm_set (intervals of_releases set.releases)

-- the ranges of the pre-releases in a set
abbrev pub pre_release_ranges : SetValue → PlainSet
pre_release_ranges set = npm_set (intervals of_pre_releases set.pre_releases)

-- whether an operator is `>=`
abbrev pub is_at_least : Op → Bool
is_at_least Gte = true
is_at_least _ = false

-- whether the only comparator is `>=0.0.0` or `>=0.0.0-0`
abbrev pub is_from_lowest : List PlainComparator → Bool
is_from_lowest (c ∷ []) = is_at_least c.op && is_lowest c.version
is_from_lowest _ = false

-- whether the only range is `>=0.0.0` or `>=0.0.0-0`, which contains every version of a kind
abbrev pub is_whole : List PlainRange → Bool
is_whole (range ∷ []) = is_from_lowest range.comparators
is_whole _ = false

-- the text of ranges: `*` if they contain every version of a kind, and `<0.0.0-0`, which no version
-- satisfies, if there is no range
abbrev pub ranges_text : PlainSet → Text
ranges_text set =
    if is_empty set.ranges then codes "<0.0.0-0"
    else (if is_whole set.ranges then codes "*" else set_text set)

-- the text of a range whose comparators are separated by a text: a space in npm's syntax
abbrev pub range_text_by : Text → PlainRange → Text
range_text_by joint range = joined joint (map comparator_text range.comparators)

-- the text of ranges whose comparators are separated by a text
abbrev pub ranges_text_by : Text → PlainSet → Text
ranges_text_by joint set =
    if is_empty set.ranges then codes "<0.0.0-0"
    else (if is_whole set.ranges then codes "*"
    else joined (codes " || ") (map (range_text_by joint) set.ranges))

-- the text of a set: its releases, and if it has pre-releases, `, pre-releases ` and these. If it
-- has only pre-releases, the text begins with `pre-releases `. Its comparators are separated by a
-- text
abbrev pub kinds_text : Text → SetValue → Text
kinds_text joint set =
    if is_empty set.pre_releases then ranges_text_by joint (release_ranges set)
    else (if is_empty set.releases
    then codes "pre-releases " ++ ranges_text_by joint (pre_release_ranges set)
    else (ranges_text_by joint (release_ranges set)
    ++ (codes ", pre-releases " ++ ranges_text_by joint (pre_release_ranges set))))

-- the text is a range of the crate's npm mode, and a version of a kind satisfies its comparators if
-- and only if the version is in the set
abbrev pub ReadsBack : Text → (PlainVersion → Type 0) → SetValue → Type 0
ReadsBack text IsOfKind set = (tree : SetTree) × Spells tree text × IsTrue (fits Npm tree)
    × ((v : PlainVersion) → IsOfKind v → meets_set v (rewritten Npm tree) ≡ contains set v)

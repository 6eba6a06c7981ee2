-- A means of proof, which no public clause cites: whether a version satisfies a range text, found
-- from its terms from left to right.
use Rattle.std.specs.Prelude.{◌≡◌, Bool, true, false, ◌&&◌, ◌||◌, not, if◌then◌else◌, nat_eq}
use Rattle.std.specs.Prelude.{List, [], ◌∷◌}
use Rattle.std.specs.Cmp.Lexicographic.{pointwise}
use Rattle.std.specs.List.{list_all, list_any}
use Rattle.semver_texts.specs.Texts.{is_empty}
use Rattle.semver_texts.specs.Versions.{PlainVersion, numbers}
use Rattle.semver_ranges.specs.declared.partial.Partial.{Partial}
use Rattle.semver_ranges.specs.declared.range.Compat.TheVariants as mode
use Rattle.semver_ranges.specs.RangeTree.{Simple, SetTree}
use Rattle.semver_ranges.specs.CrateMeaning.{meets_stated}
use Rattle.semver_ranges.specs.Partials.{stated, zero_filled}
use Rattle.semver_ranges.specs.StatedPreReleases.{states_pre_release_at}
use Rattle.semver_ranges.specs.Terms.{of_simple}
use Rattle.semver_ranges.specs.Steps.PartialViews.{stated_of, version_of}
use Rattle.semver_ranges.specs.Steps.RangeEvents.{Event, one_simple, next_range}
use Rattle.semver_versions.specs.VersionRefs.{VersionRefValue}
use Rattle.semver_versions.specs.VersionRefs as refs
use Rattle.version_sets.specs.declared.rules.PreReleases.{PreReleases}
use Rattle.version_sets.specs.declared.rules.PreReleases.TheVariants.{ByDialect, Included, Excluded}
use Rattle.tool_ranges.specs.AnySize.{zero_filled_any}
use Rattle.tool_ranges.specs.CargoMeaning as cargo
use Rattle.tool_ranges.specs.NpmMeaning as npm
use Rattle.semver_ranges.specs.declared.dialect.Dialect.{Dialect}
use Rattle.semver_ranges.specs.declared.dialect.Dialect.TheVariants.{Cargo, Npm, CrateCargo}
use Rattle.semver_ranges.specs.declared.dialect.Dialect.TheVariants.{CrateNpm}
use Rattle.tool_ranges.specs.declared.matching.Progress.{Progress}
use Rattle.tool_ranges.specs.Steps.TextEvents.{ranges_of}

-- the version of a borrowed version, without its build metadata
abbrev pub plain_of : VersionRefValue → PlainVersion
plain_of borrowed = (refs.version_of borrowed).plain

-- whether a partial version states the three numbers of a version, and a pre-release
abbrev pub states_at : Partial → PlainVersion → Bool
states_at p v = not (is_empty (version_of p).pre) && pointwise nat_eq (numbers v) (stated_of p)

-- ---- whether each pre-release within the bounds counts, and the rule for that

abbrev pub rule_of : Bool → PreReleases
rule_of true = Included
rule_of false = ByDialect

abbrev pub takes_all : PreReleases → Bool
takes_all Included = true
takes_all rule = false

-- ---- whether a version satisfies a term
abbrev pub term_met : Dialect → Bool → PlainVersion → Simple → Bool
term_met Cargo all v s =
    cargo.meets_by_count (rule_of all) s.operator (stated s.partial) (zero_filled_any s.partial) v
term_met Npm all v s = npm.meets_one (rule_of all) s v
term_met CrateCargo all v s =
    meets_stated mode.Cargo s.operator (stated s.partial) (zero_filled s.partial) v
term_met CrateNpm all v s =
    meets_stated mode.Npm s.operator (stated s.partial) (zero_filled s.partial) v

-- ---- ranges

-- whether a version counts in each range, whatever its terms state
abbrev pub counts : Bool → PlainVersion → Bool
counts all v = all || is_empty v.pre

-- what is known before the first term
abbrev pub begun : Bool → Progress
begun counts =
    record { here = true; counts = counts; matches_all = true; met = false; matched_all = false }

-- what is known after one more term
abbrev pub taken : Dialect → Bool → PlainVersion → Simple → Progress → Progress
taken dialect all v s t = record t {
  here = t.here && term_met dialect all v s;
  counts = t.counts || states_pre_release_at (of_simple s) v;
  matches_all = t.matches_all && npm.matches_everything (of_simple s);
}

-- what is known at the end of a range
abbrev pub ended : Bool → Progress → Progress
ended counts t = record {
  here = true;
  counts = counts;
  matches_all = true;
  met = t.met || (t.here && t.counts);
  matched_all = t.matched_all || t.matches_all;
}

-- what is known after more events
abbrev pub after : Dialect → Bool → PlainVersion → Progress → List Event → Progress
after dialect all v t [] = t
after dialect all v t (one_simple s ∷ es) = after dialect all v (taken dialect all v s t) es
after dialect all v t (next_range ∷ es) = after dialect all v (ended (counts all v) t) es

-- whether a version satisfies each term of a range, and counts in the range
abbrev pub range_met : Dialect → Bool → PlainVersion → List Simple → Bool
range_met dialect all v ss = list_all (term_met dialect all v) ss
    && (counts all v || list_any (λ s. states_pre_release_at (of_simple s) v) ss)

-- whether each term of a range matches everything
abbrev pub range_every : List Simple → Bool
range_every ss = list_all (λ s. npm.matches_everything (of_simple s)) ss

-- at the end of a text, it is known whether the version satisfies some range of the tree and counts
-- in it, and whether some range matches everything
abbrev pub Says : Dialect → Bool → PlainVersion → Progress → SetTree → Type 0
Says dialect all v progress tree =
    (progress.met
    ≡ list_any (range_met dialect all v) (ranges_of dialect tree))
    × (progress.matched_all ≡ list_any range_every (ranges_of dialect tree))

-- whether the version satisfies the text. In npm's dialect, if some range matches everything, each
-- release does by default and no pre-release
abbrev pub met_by : Dialect → Bool → PlainVersion → Progress → Bool
met_by Npm false v progress = if progress.matched_all then is_empty v.pre else progress.met
met_by dialect all v progress = progress.met

-- whether the version satisfies the text under a rule
abbrev pub is_met : Dialect → PreReleases → PlainVersion → Progress → Bool
is_met dialect Excluded v progress = is_empty v.pre && met_by dialect false v progress
is_met dialect rule v progress = met_by dialect (takes_all rule) v progress

-- whether, if some range matches everything, each release satisfies the text and no pre-release
-- does: in npm's dialect, unless each pre-release within the bounds counts
abbrev pub takes_releases : Dialect → PreReleases → Bool
takes_releases Npm rule = not (takes_all rule)
takes_releases dialect rule = false

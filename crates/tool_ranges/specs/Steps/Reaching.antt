-- A means of proof, which no public clause cites: which versions count in a range, found from the
-- events that are left of a range text.
use Rattle.std.specs.Prelude.{Bool, true, false, ◌||◌, List, ◌∷◌}
use Rattle.semver_texts.specs.Texts.{is_empty}
use Rattle.semver_texts.specs.Versions.{PlainVersion}
use Rattle.semver_ranges.specs.StatedPreReleases.{states_pre_release_at}
use Rattle.semver_ranges.specs.Steps.RangeEvents.{Event, one_simple}
use Rattle.semver_ranges.specs.Terms.{of_simple}
use Rattle.version_sets.specs.declared.rules.PreReleases.{PreReleases}
use Rattle.version_sets.specs.declared.rules.PreReleases.TheVariants.{Excluded}

-- whether a version is of a kind that counts under a rule: with `Excluded` these are the releases
abbrev pub may_count : PreReleases → PlainVersion → Bool
may_count Excluded v = is_empty v.pre
may_count rule v = true

-- whether some term before the end of the current range states the three numbers of a version, and
-- a pre-release
abbrev pub states_some : List Event → PlainVersion → Bool
states_some (one_simple s ∷ es) v = states_pre_release_at (of_simple s) v || states_some es v
states_some es v = false

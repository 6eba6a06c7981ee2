-- Which versions of a list a range text keeps.
use Rattle.std.specs.Prelude.{List, filter}
use Rattle.semver_texts.specs.VersionViews.{version_value}
use Rattle.semver_texts.specs.declared.version.Version.{Version}
use Rattle.semver_ranges.specs.declared.range.Compat.{Compat}
use Rattle.semver_ranges.specs.RangeTree.{SetTree}
use Rattle.version_sets.specs.PreReleaseRules.{is_kept}

-- the versions that are kept, in their order and with repeats: the releases that satisfy the text
abbrev pub kept_releases : Compat → SetTree → List Version → List Version
kept_releases mode tree versions = filter (λ v. is_kept mode tree (version_value v)) versions

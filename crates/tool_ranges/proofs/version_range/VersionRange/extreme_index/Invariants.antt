use Rattle.std.specs.Prelude.{option_map}
use Rattle.semver_versions.specs.VersionRefs.{version_of}
use Rattle.tool_ranges.specs.VersionRanges.{versions_grammar}
use Rattle.tool_ranges.proofs.HighestMembers.{IsBest}
use Rattle.tool_ranges.proofs.version_range.VersionRange.extreme_index.Given as goal

abbrev pub invariant-loop-at : goal.invariant-loop-at
invariant-loop-at l =
    IsBest l.which (versions_grammar l.self) l.self.versions l.versions l.at l.found (option_map (λ o. (version_of o).plain) l.best)

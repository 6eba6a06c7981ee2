use Rattle.std.proofs.Common.{◌≡◌, true, List}
use Rattle.std.specs.List.{list_all}
use Rattle.std.specs.Prelude.{◌↔◌}
use Rattle.semver_ranges.specs.Steps.RangeEvents.{Event, event_fits}
use Rattle.semver_versions.specs.VersionRefs.{version_of}
use Rattle.semver_ranges.specs.DialectTable.{grammar_of}
use Rattle.semver_ranges.specs.Sides.{term_fits}
use Rattle.semver_ranges.specs.Steps.Checked.{HasEvents, size_after}
use Rattle.tool_ranges.proofs.ReachedVersions.{HasStated}
use Rattle.tool_ranges.proofs.at_or_above.has_stated.Given as goal

abbrev pub invariant-loop-event : goal.invariant-loop-event
invariant-loop-event l = (es : List Event) → HasEvents (grammar_of l.fn.dialect) l.begin es → list_all (event_fits (term_fits l.fn.dialect)) es ≡ true
    → (left : List Event) × HasEvents (grammar_of l.fn.dialect) l.terms left × (list_all (event_fits (term_fits l.fn.dialect)) left ≡ true)
    × (HasStated l.here (version_of l.version).plain es ↔ HasStated l.here (version_of l.version).plain left)

abbrev pub decreases-loop-event : goal.decreases-loop-event
decreases-loop-event l = size_after l.terms

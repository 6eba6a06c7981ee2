use Rattle.std.proofs.Common.{◌≡◌, ◌↔◌, None, IfOk, subst}
use Rattle.version_sets.specs.VersionSets.{HasNone, IsWithin}
use Rattle.semver_ranges.specs.DialectTable.{limit}
use Rattle.tool_ranges.specs.VersionRanges.{RangeValue}
use Rattle.tool_ranges.proofs.version_range.VersionRange.lowest_version.Goals as goal

pub returns-clause-none : goal.returns-clause-none
returns-clause-none c =
    let by_limit = subst (λ most. IfOk c.lowest_within.result (λ lowest. (lowest ≡ None) ↔ HasNone (IsWithin most) c.self.inside.versions))
    c.limit.ensures c.lowest_within.ensures.none in
    subst (λ (range : RangeValue). IfOk c.lowest_within.result
    (λ lowest. (lowest ≡ None) ↔ HasNone (IsWithin (limit range.meaning.dialect)) range.versions)) c.self.view_is by_limit

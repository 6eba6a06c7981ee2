use Rattle.std.proofs.Common.{List, ap, sym, ◌∙◌, map}
use Rattle.std.specs.List.{list_any}
use Rattle.semver_ranges.specs.declared.range.Range.{Range}
use Rattle.semver_ranges.specs.SatisfiedComparators.{meets_range}
use Rattle.semver_ranges.specs.RangeViews.{range_of}
use Rattle.semver_texts.specs.VersionViews.{version_value}
use Rattle.release_filter.proofs.Tests.{list_any-map}
use Rattle.release_filter.proofs.meeting.version_meets.Goals as goal

pub returns : goal.returns
returns c = record {
  meets =
      let met = meets_range (version_value c.args.version.now).plain in
      c.some_range_is_met.ensures ∙ sym (list_any-map met range_of c.deref.result.now)
      ∙ ap (λ (l : List Range). list_any met (map range_of l)) c.deref.ensures.value;
}

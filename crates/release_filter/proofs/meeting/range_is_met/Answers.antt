use Rattle.std.proofs.Common.{List, ap, sym, ◌∙◌, map}
use Rattle.std.specs.List.{list_all}
use Rattle.std.proofs.lemmas.List.Folds.{list_all-map}
use Rattle.semver_ranges.specs.declared.range.Comparator.{Comparator}
use Rattle.semver_ranges.specs.SatisfiedComparators.{meets_comparator}
use Rattle.semver_ranges.specs.RangeViews.{comparator_of}
use Rattle.semver_texts.specs.VersionViews.{version_value}
use Rattle.release_filter.proofs.meeting.range_is_met.Goals as goal

pub returns : goal.returns
returns c =
    let met = meets_comparator (version_value c.args.version.now).plain in
    c.each_comparator_is_met.ensures ∙ sym (list_all-map met comparator_of c.deref.result.now)
    ∙ ap (λ (l : List Comparator). list_all met (map comparator_of l)) c.deref.ensures.value

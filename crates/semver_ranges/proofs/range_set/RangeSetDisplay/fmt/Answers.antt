use Rattle.std.proofs.Common.{refl, ap}
use Rattle.std.specs.Prelude.{codes}
use Rattle.std.proofs.Output.{has_written_of_eq}
use Rattle.semver_ranges.specs.declared.range.Range.{Range}
use Rattle.semver_texts.specs.Texts.{joined}
use Rattle.semver_ranges.specs.PrintedRanges.{range_text}
use Rattle.semver_ranges.specs.RangeViews.{range_of}
use Rattle.semver_texts.proofs.Joins.{map_view}
use Rattle.semver_ranges.proofs.range_set.RangeSetDisplay.fmt.Goals as goal

pub returns-clause-writes : goal.returns-clause-writes
returns-clause-writes g c = λ plain ok.
    let all = (rw c.deref.ensures.value at (c.write_joined.ensures (λ (x : Range). range_text (range_of x)) (λ _. refl))) plain ok in
    has_written_of_eq _ _ _ _ _ (ap (λ l. joined (codes " || ") l)
    (map_view range_text range_of c.args.self.now.ranges.items)) all

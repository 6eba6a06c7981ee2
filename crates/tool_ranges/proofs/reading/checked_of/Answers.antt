use Rattle.std.proofs.Common.{subst}
use Rattle.semver_ranges.specs.Steps.Checked.{IsCheckedBy}
use Rattle.tool_ranges.proofs.CheckedEvents.{checked_as}
use Rattle.tool_ranges.proofs.reading.checked_of.Goals as goal

pub returns : goal.returns
returns c =
    let t = c.args.range.now in
    checked_as c.args.dialect t c.new.result
    (subst (λ o. IsCheckedBy c.args.dialect o c.new.result) c.in_ok-begin.ensures.begun.1 (c.new.ensures t c.in_ok-begin.ensures.begun.0))

use Rattle.std.proofs.Common.{◌∙◌}
use Rattle.tool_ranges.specs.Steps.TextEvents.{events_in, ranges_of}
use Rattle.tool_ranges.proofs.MatchedEvents.{ranges_fit}
use Rattle.tool_ranges.proofs.WidenedTexts.{is_widened_text, keeps_text, refused}
use Rattle.tool_ranges.proofs.widening.is_widened.Goals as goal

pub returns-in_default-clause-widened : goal.returns-in_default-clause-widened
returns-in_default-clause-widened c = (
  λ e. cc,
  λ it. absurd (refused c.args.dialect c.args.range.now c.in_default.field-0 (rw c.in_default.is at c.checked_of.ensures)
      it.old_tree it.old_spelled it.old_fits),
)

pub returns-in_default-checked_of-clause-widened : goal.returns-in_default-checked_of-clause-widened
returns-in_default-checked_of-clause-widened c = (
  λ e. cc,
  λ it. absurd (refused c.args.dialect c.args.other.now c.in_default-checked_of.field-0 (rw c.in_default-checked_of.is at c.checked_of-2.ensures)
      it.new_tree it.new_spelled it.new_fits),
)

pub returns-clause-widened : goal.returns-clause-widened
returns-clause-widened c =
    let d = c.args.dialect in
    let old = c.in-Ok.ensures in
    let new = c.in-Ok-checked_of.ensures in
    is_widened_text d c.args.range.now c.args.other.now old.0 new.0 old.1 new.1 c.are_widened.result
    (c.are_widened.ensures (events_in (ranges_of d old.0)) (events_in (ranges_of d new.0)) old.3 new.3
    (ranges_fit d c.args.range.now old.0 old.1 ∙ old.2) (ranges_fit d c.args.other.now new.0 new.1 ∙ new.2))
    old.2 new.2

pub returns-clause-keeps : goal.returns-clause-keeps
returns-clause-keeps c =
    let d = c.args.dialect in
    let old = c.in-Ok.ensures in
    let new = c.in-Ok-checked_of.ensures in
    keeps_text d c.args.range.now c.args.other.now old.0 new.0 old.1 new.1 c.are_widened.result
    (c.are_widened.ensures (events_in (ranges_of d old.0)) (events_in (ranges_of d new.0)) old.3 new.3
    (ranges_fit d c.args.range.now old.0 old.1 ∙ old.2) (ranges_fit d c.args.other.now new.0 new.1 ∙ new.2))

use Rattle.std.proofs.Common.{◌≡◌, ◌&&◌, ◌∙◌, refl, sym}
use Rattle.semver_texts.specs.Texts.{is_empty}
use Rattle.semver_ranges.proofs.ComparatorSteps.{found_here, no_bytes, not_here}
use Rattle.semver_ranges.proofs.cargo.read_comparator.Goals as goal
use Rattle.semver_ranges.proofs.cargo.read_comparator.Goals.{then-is_first, else-is_first}

pub returns-then-may_come : goal.returns-then-may_come
returns-then-may_come c =
    let here = c.in_ok-term.ensures in
    let only : c.if-is_first.may_come ≡ (c.args.is_first && is_empty c.in_ok-term.rest.now) = elim c.if-is_first.branch [
      | then-is_first w ↦ rw w.if-is_first.true (w.may_come-is ∙ w.is_empty.ensures ∙ no_bytes c.in_ok-term.rest.now)
      | else-is_first w ↦ rw w.if-is_first.false (w.may_come-is ∙ w.if-is_first.false)
    ] in
    found_here c.args.is_first c.args.text.now c.in_ok-term.term c.in_ok-term.rest.now here
    (rw (← only) (sym (c.may_come.ensures _ refl here.is.written) ∙ c.if-may_come.true))

pub returns-else-may_come : goal.returns-else-may_come
returns-else-may_come c =
    let here = c.in_ok-term.ensures in
    let only : c.if-is_first.may_come ≡ (c.args.is_first && is_empty c.in_ok-term.rest.now) = elim c.if-is_first.branch [
      | then-is_first w ↦ rw w.if-is_first.true (w.may_come-is ∙ w.is_empty.ensures ∙ no_bytes c.in_ok-term.rest.now)
      | else-is_first w ↦ rw w.if-is_first.false (w.may_come-is ∙ w.if-is_first.false)
    ] in
    not_here c.args.is_first c.args.text.now c.in_ok-term.term c.in_ok-term.rest.now here
    (rw (← only) (sym (c.may_come.ensures _ refl here.is.written) ∙ c.if-may_come.false))

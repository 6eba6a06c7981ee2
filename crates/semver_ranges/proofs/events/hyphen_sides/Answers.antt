use Rattle.std.proofs.Common.{refl, sym, ◌∙◌}
use Rattle.semver_ranges.proofs.StatedNumbers.{states_kind}
use Rattle.semver_ranges.proofs.events.hyphen_sides.Goals as goal

pub returns-then-states_nothing : goal.returns-then-states_nothing
returns-then-states_nothing c =
    λ s r left right. rw (states_kind r c.args.right right ∙ sym c.states_nothing.ensures ∙ c.if-states_nothing.true)
    left

pub returns-then-states_nothing-2 : goal.returns-then-states_nothing-2
returns-then-states_nothing-2 c = λ s r left right.
    rw (
      states_kind r c.args.right right ∙ sym c.states_nothing.ensures ∙ c.if-states_nothing.false,
      states_kind s.partial c.args.left.partial left.1
          ∙ sym c.states_nothing-else-states_nothing.ensures ∙ c.if-states_nothing-2.true,
    ) (refl, right)

pub returns-else-states_nothing-2 : goal.returns-else-states_nothing-2
returns-else-states_nothing-2 c = λ s r left right.
    rw (
      states_kind r c.args.right right ∙ sym c.states_nothing.ensures ∙ c.if-states_nothing.false,
      states_kind s.partial c.args.left.partial left.1
          ∙ sym c.states_nothing-else-states_nothing.ensures ∙ c.if-states_nothing-2.false,
    ) (left, (refl, right))

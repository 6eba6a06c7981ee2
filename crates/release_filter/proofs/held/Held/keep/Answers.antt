use Rattle.std.proofs.Common.{[], List, append-nil, subst, sym}
use Rattle.release_filter.specs.Selections.{Holds, SelectedValue}
use Rattle.release_filter.specs.Steps.Taking.{held_value}
use Rattle.release_filter.proofs.HeldLines.{few_held}
use Rattle.release_filter.proofs.Holding.{holds_none, none_selected}
use Rattle.release_filter.proofs.held.Held.keep.Goals as goal

pub returns-clause-holds : goal.returns-clause-holds
returns-clause-holds c =
    let h = held_value c.args.self.now in
    let none = none_selected c.args.judged.now c.in_default.not-Kept in (
      [],
      subst (λ (l : List SelectedValue). Holds h l h []) (sym none) (holds_none h (few_held c.args.self.now)),
      sym
          (append-nil c.args.kept.now.items),
    )

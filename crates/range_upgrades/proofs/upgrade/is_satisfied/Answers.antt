use Rattle.std.proofs.Common.{Err, ap}
use Rattle.range_upgrades.proofs.Satisfied.{no_set, range_met}
use Rattle.range_upgrades.proofs.upgrade.is_satisfied.Goals as goal

pub returns-in-Ok : goal.returns-in-Ok
returns-in-Ok c =
    range_met c.one_tree.ensures.same_tree c.args.meaning c.args.range.now c.args.version.now c.requires c.in-Ok.ensures.refusals.accepted
    c.in-Ok.met c.in-Ok.ensures.meaning

pub returns-in-Err : goal.returns-in-Err
returns-in-Err c = (
  λ e. cc,
  λ met. absurd (no_set c.one_tree.ensures.same_tree c.args.meaning.dialect c.args.range.now c.in-Err.field-0 c.in-Err.ensures.refusals
      (λ e. c.in-Err.ensures.no_memory (ap Err e)) met.0),
)

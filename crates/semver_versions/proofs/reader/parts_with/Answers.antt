use Rattle.semver_versions.proofs.ReadVersions.{no_build, no_pre, not_taken, parts_found}
use Rattle.semver_versions.proofs.reader.parts_with.Goals as goal
use Rattle.semver_versions.proofs.reader.parts_with.Goals.{else-may_end-via-then-may_end+else-zeros_fit, else-may_end-via-else-may_end}

pub returns-in_err-pre : goal.returns-in_err-pre
returns-in_err-pre c =
    rw c.from_residual.ensures
    (no_pre c.args.grammar c.args.bytes.now (rw c.requires at c.in_err-pre.ensures))

pub returns-in_err-build : goal.returns-in_err-build
returns-in_err-build c =
    rw c.from_residual-in_err-build.ensures
    (no_build c.args.grammar c.args.bytes.now c.in_ok-pre.pre.now c.in_ok-pre.rest.now (rw c.requires at c.in_ok-pre.ensures)
    (rw c.requires at c.in_err-build.ensures))

pub returns-then-zeros_fit : goal.returns-then-zeros_fit
returns-then-zeros_fit c =
    parts_found c.args.grammar c.args.bytes.now c.in_ok-pre.pre.now c.in_ok-pre.rest.now (rw c.requires at c.in_ok-pre.ensures)
    c.in_ok-build.build.now c.in_ok-build.rest.now (rw c.requires at c.in_ok-build.ensures)
    (c.may_end.ensures.yes c.if-may_end.true) (c.zeros_fit.ensures.yes c.if-zeros_fit.true)

pub returns-else-may_end : goal.returns-else-may_end
returns-else-may_end c =
    not_taken c.args.grammar c.args.bytes.now c.in_ok-pre.pre.now c.in_ok-pre.rest.now (rw c.requires at c.in_ok-pre.ensures)
    c.in_ok-build.build.now c.in_ok-build.rest.now (rw c.requires at c.in_ok-build.ensures)
    (λ around zeros. elim c.else-may_end.branch [
      | else-may_end-via-then-may_end+else-zeros_fit w ↦ w.zeros_fit.ensures.no w.if-zeros_fit.false zeros
      | else-may_end-via-else-may_end w ↦ c.may_end.ensures.no w.if-may_end.false around
    ])

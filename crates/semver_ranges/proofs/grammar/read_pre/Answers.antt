use Rattle.semver_ranges.proofs.CursorSteps.{qualifier_found, no_pre, no_build_after}
use Rattle.semver_ranges.proofs.PartRuns.{parts_found, parts_not_found}
use Rattle.semver_ranges.proofs.grammar.read_pre.Goals as goal

pub returns-in_err-pre : goal.returns-in_err-pre
returns-in_err-pre c =
    rw c.from_residual.ensures (λ a b d. no_pre a b d c.args.text.now (parts_not_found 45 c.args.text.now c.in_err-pre.ensures))

pub returns-in_err-build : goal.returns-in_err-build
returns-in_err-build c =
    let pre = parts_found 45 c.args.text.now c.in_ok-pre.pre.now c.in_ok-pre.rest.now c.in_ok-pre.ensures in
    rw c.from_residual-in_err-build.ensures (λ a b d. no_build_after a b d _ c.args.text.now c.in_ok-pre.rest.now pre.0
    (parts_not_found 43 c.in_ok-pre.rest.now c.in_err-build.ensures))

pub returns : goal.returns
returns c =
    let pre = parts_found 45 c.args.text.now c.in_ok-pre.pre.now c.in_ok-pre.rest.now c.in_ok-pre.ensures in
    let build = parts_found 43 c.in_ok-pre.rest.now c.in_ok-build.build.now c.in_ok-build.rest.now c.in_ok-build.ensures in (
      λ a b d. qualifier_found a b d _ _ c.args.text.now c.in_ok-pre.rest.now c.in_ok-build.rest.now pre.0 build.0,
      pre.1,
    )

use Rattle.tool_ranges.proofs.meaning.check.Goals as goal

pub returns-in-Cargo-clause-refusals : goal.returns-in-Cargo-clause-refusals
returns-in-Cargo-clause-refusals c = rw c.in-Cargo.is c.check.ensures.refusals

pub returns-in-Npm-clause-refusals : goal.returns-in-Npm-clause-refusals
returns-in-Npm-clause-refusals c = rw c.in-Npm.is c.check-in-Npm.ensures.refusals

pub returns-in-CrateCargo-clause-refusals : goal.returns-in-CrateCargo-clause-refusals
returns-in-CrateCargo-clause-refusals c = rw c.in-CrateCargo.is c.check-in-CrateCargo.ensures.refusals

pub returns-in-CrateNpm-clause-refusals : goal.returns-in-CrateNpm-clause-refusals
returns-in-CrateNpm-clause-refusals c = rw c.in-CrateNpm.is c.check-in-CrateNpm.ensures.refusals

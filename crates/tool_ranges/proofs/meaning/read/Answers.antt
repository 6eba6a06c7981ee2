use Rattle.tool_ranges.proofs.meaning.read.Goals as goal

pub returns-in-Cargo-clause-refusals : goal.returns-in-Cargo-clause-refusals
returns-in-Cargo-clause-refusals c = rw c.in-Cargo.is c.read.ensures.refusals

pub returns-in-Npm-clause-refusals : goal.returns-in-Npm-clause-refusals
returns-in-Npm-clause-refusals c = rw c.in-Npm.is c.read-in-Npm.ensures.refusals

pub returns-in-CrateCargo-clause-refusals : goal.returns-in-CrateCargo-clause-refusals
returns-in-CrateCargo-clause-refusals c = rw c.in-CrateCargo.is c.read-in-CrateCargo.ensures.refusals

pub returns-in-CrateNpm-clause-refusals : goal.returns-in-CrateNpm-clause-refusals
returns-in-CrateNpm-clause-refusals c = rw c.in-CrateNpm.is c.read-in-CrateNpm.ensures.refusals

pub returns-in-Cargo-clause-meaning : goal.returns-in-Cargo-clause-meaning
returns-in-Cargo-clause-meaning c = rw c.in-Cargo.is c.read.ensures.meaning

pub returns-in-Npm-clause-meaning : goal.returns-in-Npm-clause-meaning
returns-in-Npm-clause-meaning c = rw c.in-Npm.is c.read-in-Npm.ensures.meaning

pub returns-in-CrateCargo-clause-meaning : goal.returns-in-CrateCargo-clause-meaning
returns-in-CrateCargo-clause-meaning c = rw c.in-CrateCargo.is c.read-in-CrateCargo.ensures.meaning

pub returns-in-CrateNpm-clause-meaning : goal.returns-in-CrateNpm-clause-meaning
returns-in-CrateNpm-clause-meaning c = rw c.in-CrateNpm.is c.read-in-CrateNpm.ensures.meaning

use Rattle.std.proofs.Common.{◌∙◌}
use Rattle.semver_versions.proofs.PrintedPre.{after_hyphen}
use Rattle.semver_versions.proofs.owned.printed_pre.Goals as goal

pub returns-in-Some : goal.returns-in-Some
returns-in-Some c = λ v small is.
    let found = after_hyphen v small c.args.printed.now c.split_once.result is c.split_once.ensures.cases in
    c.as_bytes.ensures.value ∙ rw c.in-Some.is at found

pub returns-in-None : goal.returns-in-None
returns-in-None c = λ v small is.
    let found = after_hyphen v small c.args.printed.now c.split_once.result is c.split_once.ensures.cases in
    rw c.in-None.is at found

use Rattle.std.proofs.Common.{◌∙◌, ap}
use Rattle.semver_texts.specs.Versions.{without_build}
use Rattle.tool_ranges.specs.Meanings.{meant_by}
use Rattle.tool_ranges.specs.Steps.Matching.{Says, plain_of, takes_all}
use Rattle.tool_ranges.specs.Steps.Reading.{IsRead}
use Rattle.tool_ranges.proofs.MatchedRanges.{means}
use Rattle.tool_ranges.proofs.ReadTrees.{answered_as, refused_as, same_read}
use Rattle.tool_ranges.proofs.matching.answer.Goals as goal
use Rattle.tool_ranges.proofs.matching.answer.Goals.{After-is_met}

read : (c : After-is_met) → IsRead c.args.dialect c.args.range.now (Says c.args.dialect (takes_all c.args.rule) (plain_of c.args.version.now) c.in-Ok.progress)
read c = rw c.takes_all.ensures at c.in-Ok.ensures

pub returns-in-Ok-clause-refusals : goal.returns-in-Ok-clause-refusals
returns-in-Ok-clause-refusals c = let tree = read c in answered_as c.args.dialect c.args.range.now _ tree.0 tree.1 tree.2

pub returns-in-Ok-clause-meaning : goal.returns-in-Ok-clause-meaning
returns-in-Ok-clause-meaning c = λ other spelled.
    let d = c.args.dialect in
    let v = plain_of c.args.version.now in
    let tree = read c in
    c.is_met.ensures v c.is_release.ensures
    ∙ means v c.requires d c.args.rule tree.0 c.in-Ok.progress tree.3
    ∙ ap (λ tree. meant_by d c.args.rule tree (without_build v)) (same_read d c.args.range.now tree.0 other tree.1 spelled)

pub returns-in-Err-clause-refusals : goal.returns-in-Err-clause-refusals
returns-in-Err-clause-refusals c = refused_as c.args.dialect c.args.range.now c.in-Err.refusal c.in-Err.ensures

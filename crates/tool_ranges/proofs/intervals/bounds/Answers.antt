use Rattle.std.proofs.Common.{◌∙◌}
use Rattle.semver_ranges.specs.Steps.PartialViews.{stated_of, version_of}
use Rattle.semver_ranges.specs.Sides.{sides}
use Rattle.tool_ranges.proofs.TableLaws.{same_sides}
use Rattle.tool_ranges.proofs.intervals.bounds.Goals as goal

pub returns : goal.returns
returns c = λ digits v.
    let simple = c.args.simple.now in
    c.between.ensures digits v
    ∙ same_sides (sides c.args.dialect simple.operator (stated_of simple.partial)) (version_of simple.partial) digits _ _
    c.sides.ensures.lower c.sides.ensures.upper v

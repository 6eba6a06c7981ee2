use Rattle.std.proofs.Common.{◌∙◌}
use Rattle.semver_ranges.specs.Steps.PartialViews.{stated_of, version_of}
use Rattle.tool_ranges.specs.Steps.Table.{cargo_sides}
use Rattle.tool_ranges.proofs.TableLaws.{same_sides}
use Rattle.tool_ranges.proofs.intervals.besides_block.Goals as goal

pub returns : goal.returns
returns c = λ digits v.
    let simple = c.args.simple.now in
    c.between.ensures digits v
    ∙ same_sides (cargo_sides simple.operator (stated_of simple.partial)) (version_of simple.partial) digits _ _
    c.cargo_sides.ensures.lower c.cargo_sides.ensures.upper v

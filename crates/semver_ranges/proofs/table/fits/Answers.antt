use Rattle.std.proofs.Common.{◌∙◌, ◌&&◌, not}
use Rattle.semver_texts.specs.Texts.{is_empty}
use Rattle.semver_texts.specs.Versions.{numbers}
use Rattle.semver_ranges.specs.Steps.PartialViews.{stated_of, version_of}
use Rattle.semver_ranges.specs.DialectTable.{limit}
use Rattle.semver_ranges.specs.Sides.{sides}
use Rattle.semver_ranges.proofs.FitCells.{fit_so}
use Rattle.semver_ranges.proofs.table.fits.Goals as goal

pub returns : goal.returns
returns c =
    let simple = c.args.simple.now in
    (λ i. (c.states_at_most.ensures i && c.may_rise.ensures i) && c.may_rise-2.ensures i)
    ∙ fit_so simple.partial.fits _ (limit c.args.dialect) _ _ (sides c.args.dialect simple.operator (stated_of simple.partial)
    (not (is_empty (version_of simple.partial).pre))) (stated_of simple.partial) (numbers (version_of simple.partial))
    c.limit-most.ensures c.sides-lower.ensures.lower c.sides-lower.ensures.upper

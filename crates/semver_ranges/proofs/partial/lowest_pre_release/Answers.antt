use Rattle.std.proofs.Common.{◌∷◌, [], List, ◌++◌, ◌∙◌, ap}
use Rattle.std.specs.Prelude.{map}
use Rattle.semver_ranges.specs.declared.range.Identifier.{Identifier}
use Rattle.semver_ranges.specs.declared.range.Identifier.TheVariants.{Numeric}
use Rattle.semver_ranges.specs.RangeViews.{identifier_of}
use Rattle.semver_ranges.proofs.partial.lowest_pre_release.Goals as goal

pub returns : goal.returns
returns c = ap (map identifier_of) (c.push_reserved.ensures.items
    ∙ ap (λ (front : List Identifier). front ++ Numeric 0 ∷ []) c.in_ok-pre.ensures.items)

use Rattle.std.proofs.Common.{ap, ◌∙◌, ◌&&◌, ◌-◌, ◌^◌, not, nat_le}
use Rattle.std.specs.Prelude.{option_map}
use Rattle.std.specs.List.{list_all}
use Rattle.std.proofs.lemmas.Bool.{and_parts}
use Rattle.semver_texts.specs.Digits.{plain_by}
use Rattle.semver_texts.specs.Texts.{is_empty}
use Rattle.semver_texts.specs.Versions.{numbers}
use Rattle.semver_ranges.specs.Steps.PartialViews.{side_value, stated_of, version_of}
use Rattle.semver_ranges.specs.declared.dialect.Dialect.TheVariants.{Npm}
use Rattle.tool_ranges.specs.Steps.Table.{is_past_release}
use Rattle.semver_ranges.specs.Sides.{may_rise, sides}
use Rattle.semver_ranges.proofs.FitCells.{rises_too}
use Rattle.tool_ranges.proofs.TableLaws.{same_releases}
use Rattle.tool_ranges.proofs.intervals.from_release.Goals as goal

pub returns : goal.returns
returns c = λ fit digits v.
    let simple = c.args.simple.now in
    let z = plain_by digits (version_of simple.partial) in
    let rises = (and_parts _ _ (and_parts (list_all (λ n. nat_le n (2 ^ 53 - 1)) (stated_of simple.partial)) _ fit).1).0 in
    let lower = c.release_of.ensures (ap (λ o. may_rise (2 ^ 64 - 1) o (numbers (version_of simple.partial))) c.sides-lower.ensures.lower
    ∙ rises_too (sides Npm simple.operator (stated_of simple.partial) (not (is_empty (version_of simple.partial).pre))).0 (version_of simple.partial) rises)
    digits v ∙ ap (λ b. is_past_release (option_map side_value c.sides-lower.result.0) b z v) c.is_past.ensures in
    let upper = c.beside.ensures.upper digits v in
    (λ i. lower i && not (upper i))
    ∙ same_releases (sides Npm simple.operator (stated_of simple.partial)) (version_of simple.partial) digits _ _
    c.sides-lower.ensures.lower c.sides-lower.ensures.upper v

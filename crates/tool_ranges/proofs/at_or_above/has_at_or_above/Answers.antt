use Rattle.std.proofs.Common.{◌≡◌, Err, true, ap, rules, subst, ◌∙◌}
use Rattle.std.specs.Prelude.{◌↔◌}
use Rattle.semver_texts.specs.Digits.{digits_in, plain_by}
use Rattle.semver_texts.specs.Versions.{PlainVersion}
use Rattle.semver_versions.specs.VersionRefs.{VersionRefValue, kept_version_of, version_of}
use Rattle.tool_ranges.specs.AtOrAbove.{HasAtOrAbove}
use Rattle.tool_ranges.proofs.ReadTrees.{answered_as, refused_as}
use Rattle.tool_ranges.proofs.at_or_above.has_at_or_above.Goals as goal

pub returns-in_err-checked-clause-refusals : goal.returns-in_err-checked-clause-refusals
returns-in_err-checked-clause-refusals c =
    let error = c.in_err-checked.field-0.0 in
    let is : c.from_residual.result ≡ Err error = search rules in
    rw is (refused_as c.args.meaning.dialect c.args.range.now error c.in_err-checked.ensures)

pub has_from-requires : goal.has_from-requires
has_from-requires c = (c.args.range.now, c.in_ok-checked.ensures)

pub returns-clause-refusals : goal.returns-clause-refusals
returns-clause-refusals c =
    let read = c.in_ok-checked.ensures in
    answered_as c.args.meaning.dialect c.args.range.now c.has_from.result read.0 read.1 read.2

pub returns-clause-has : goal.returns-clause-has
returns-clause-has c = λ tree spelled.
    let d = c.args.meaning.dialect in
    let kept = (kept_version_of c.args.version.now).plain in
    let same = ap (λ (o : VersionRefValue). (version_of o).plain) c.read_by-version.ensures.version
    ∙ ap (λ digits. plain_by digits kept) (c.digits.ensures ∙ ap digits_in c.grammar.ensures.grammar) in
    subst (λ (v : PlainVersion). (c.has_from.result ≡ true) ↔ HasAtOrAbove c.args.meaning tree v) same
    (c.has_from.ensures c.args.range.now tree c.in_ok-checked.ensures spelled)

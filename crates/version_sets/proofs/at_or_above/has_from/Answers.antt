use Rattle.std.proofs.Common.{◌≡◌, ◌&&◌, ◌∙◌, ap, arith, false, true}
use Rattle.std.specs.Prelude.{option_map}
use Rattle.semver_texts.specs.Texts.{is_empty}
use Rattle.semver_versions.specs.VersionRefs.{version_of}
use Rattle.version_sets.specs.VersionSets.{IsPreRelease}
use Rattle.version_sets.specs.Steps.EndPlaces.{end_place}
use Rattle.version_sets.specs.Steps.SpanViews.{is_within}
use Rattle.version_sets.proofs.AtOrAbove.{has_cut, has_own, past_release}
use Rattle.version_sets.proofs.NumberLaws.{and_true}
use Rattle.version_sets.proofs.at_or_above.has_from.Goals as goal

pub returns-then-has_pre_release : goal.returns-then-has_pre_release
returns-then-has_pre_release c =
    let v = (version_of c.args.version.now).plain in
    let bounds = c.args.bounds in
    let pre : is_empty v.pre ≡ false = grind (arith, c.is_pre_release.ensures.of_version, c.if-is_pre_release.true) in
    has_own (option_map end_place bounds.from) (option_map end_place bounds.to) v c.has_reached.result
    (c.numbers-numbers.ensures.fit, pre) c.has_reached.ensures (c.has_pre_release.ensures.0 c.if-has_pre_release.true)

pub returns : goal.returns
returns c =
    let v = (version_of c.args.version.now).plain in
    let none : is_empty v.pre ≡ true = grind (arith, c.is_pre_release.ensures.of_version, c.if-is_pre_release.false) in
    has_cut IsPreRelease (is_within end_place c.args.bounds) (is_within end_place c.and.result) v c.has_pre_release-2.result
    (λ w kind. c.and.ensures.meaning w ∙ ap (λ b. is_within end_place c.args.bounds w && b) (and_true _
    ∙ c.above_numbers.ensures.meaning w kind ∙ past_release w v c.numbers-numbers.result c.numbers-numbers.ensures.numbers kind.1 none))
    c.has_pre_release-2.ensures

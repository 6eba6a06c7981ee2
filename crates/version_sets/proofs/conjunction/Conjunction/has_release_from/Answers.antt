use Rattle.std.proofs.Common.{◌∙◌, ◌&&◌, ap, is_ge, sym}
use Rattle.semver_texts.specs.Precedence.{precedence}
use Rattle.semver_versions.specs.VersionRefs.{version_of}
use Rattle.version_sets.specs.Releases.{release_value}
use Rattle.version_sets.specs.VersionSets.{IsRelease}
use Rattle.version_sets.specs.Steps.Ends.{in_each}
use Rattle.version_sets.specs.Steps.SpanViews.{is_within}
use Rattle.version_sets.proofs.AtOrAbove.{from_release, has_cut, in_release}
use Rattle.version_sets.proofs.NumberLaws.{and_true}
use Rattle.version_sets.proofs.conjunction.Conjunction.has_release_from.Goals as goal

pub returns : goal.returns
returns c =
    let v = (version_of c.args.version.now).plain in
    let range = c.args.self.now in
    has_cut IsRelease (in_each range) (is_within release_value c.and.result) v c.has_release.result
    (λ w kind. c.and.ensures.meaning w ∙ ap (λ b. is_within release_value range.releases w && b)
    (and_true _ ∙ from_release w v c.numbers.result c.numbers.ensures.numbers kind.1)
    ∙ ap (λ b. b && is_ge (precedence w v)) (sym (in_release range w kind.1)))
    c.has_release.ensures

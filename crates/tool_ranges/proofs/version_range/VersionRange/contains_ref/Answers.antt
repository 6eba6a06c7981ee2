use Rattle.std.proofs.Common.{◌≡◌, ◌∙◌, ap, subst}
use Rattle.semver_texts.specs.Digits.{digits_in}
use Rattle.semver_versions.specs.VersionRefs.{kept_version_of}
use Rattle.version_sets.specs.VersionSets.{contains_kept}
use Rattle.tool_ranges.specs.VersionRanges.{RangeValue, versions_grammar}
use Rattle.tool_ranges.proofs.ContainedTexts.{borrowed_alike}
use Rattle.tool_ranges.proofs.version_range.VersionRange.contains_ref.Goals as goal

pub returns-clause-of_text : goal.returns-clause-of_text
returns-clause-of_text c = λ text borrowed.
    let range = c.args.self.now in
    let digits : range.versions.digits ≡ digits_in (versions_grammar range) =
    subst (λ (r : RangeValue). r.versions.digits ≡ digits_in (versions_grammar r)) c.self.view_is c.self.invariant in
    c.contains_ref.ensures.of_version
    ∙ ap (λ (r : RangeValue). contains_kept r.versions (kept_version_of c.args.version.now).plain) c.self.view_is
    ∙ borrowed_alike (versions_grammar range) range.versions text c.args.version.now digits borrowed

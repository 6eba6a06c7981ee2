use Rattle.std.proofs.Common.{ap, map, ◌∙◌}
use Rattle.semver_texts.specs.Digits.{identifiers_by}
use Rattle.semver_texts.specs.VersionViews.{identifier_value}
use Rattle.semver_versions.proofs.read_version.ReadVersion.of.Goals as goal

pub returns-clause-plain : goal.returns-clause-plain
returns-clause-plain c = λ i. record {
  major = c.major.ensures i;
  minor = c.minor.ensures i;
  patch = c.patch.ensures i;
  pre = (ap (λ d. identifiers_by d (map identifier_value c.in_ok-pre_identifiers.field-0.items)) c.digits.ensures
      ∙ c.in_ok-pre_identifiers.ensures.of_version) i;
}

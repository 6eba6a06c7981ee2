use Rattle.std.proofs.Common.{ap, ap₂, map}
use Rattle.semver_texts.specs.Digits.{plain_by}
use Rattle.semver_texts.specs.VersionViews.{identifier_value}
use Rattle.semver_versions.proofs.ClonedIdentifiers.{cloned_values}
use Rattle.semver_versions.proofs.read_version.ReadVersion.without_build.Goals as goal

pub returns-clause-plain : goal.returns-clause-plain
returns-clause-plain c =
    let v = c.args.self.now.version in
    ap (λ pre. plain_by c.args.self.now.digits (record { major = v.major; minor = v.minor; patch = v.patch; pre = pre }))
    (cloned_values _ _ c.in_ok-clone.ensures.cases.0)

pub returns-clause-version : goal.returns-clause-version
returns-clause-version c =
    let v = c.args.self.now.version in
    ap₂ (λ pre build. record {
      plain = record { major = v.major; minor = v.minor; patch = v.patch; pre = pre };
      build = map identifier_value build;
    }) (cloned_values _ _ c.in_ok-clone.ensures.cases.0) c.new.ensures.items

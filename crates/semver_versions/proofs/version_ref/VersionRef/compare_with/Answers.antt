use Rattle.std.proofs.Common.{◌≡◌, ap, rules, sym, ◌∙◌}
use Rattle.semver_texts.specs.Precedence.{precedence}
use Rattle.semver_texts.specs.VersionViews.{version_value}
use Rattle.semver_texts.specs.Versions.{VersionValue}
use Rattle.semver_versions.specs.VersionRefs.{version_of}
use Rattle.semver_versions.proofs.BorrowedVersions.{its_version}
use Rattle.semver_versions.proofs.version_ref.VersionRef.compare_with.Goals as goal

pub returns-clause-precedence : goal.returns-clause-precedence
returns-clause-precedence c = λ text v borrowed spells.
    let other = (version_value c.args.version.now).plain in
    let is : c.compare.result ≡ precedence (version_of c.args.self.now).plain other = search rules in
    is ∙ ap (λ (w : VersionValue). precedence w.plain other) (sym (its_version _ text v spells c.args.self.now borrowed))

use Rattle.std.proofs.Common.{◌∙◌, ap, sym}
use Rattle.std.specs.Prelude.{not}
use Rattle.semver_texts.specs.Texts.{is_empty}
use Rattle.semver_texts.specs.Versions.{VersionValue}
use Rattle.semver_versions.specs.VersionRefs.{VersionRefValue}
use Rattle.semver_versions.proofs.BorrowedVersions.{its_version, none_where_empty}
use Rattle.semver_versions.proofs.version_ref.VersionRef.is_pre_release.Goals as goal

pub returns : goal.returns
returns c =
    let is = ap not (c.is_empty.ensures ∙ none_where_empty c.args.self.now.digits c.self.inside.pre.now)
    ∙ rw (← (ap (λ (o : VersionRefValue). o.pre) c.self.view_is)) in
    record {
      pre_release = λ text v borrowed spells.
          is ∙ ap (λ (w : VersionValue). not (is_empty w.plain.pre)) (sym (its_version _ text v spells c.args.self.now borrowed));
      of_version = is;
    }

use Rattle.std.proofs.Common.{map, ap, sym, ◌∙◌}
use Rattle.semver_texts.specs.Digits.{identifiers_by}
use Rattle.semver_texts.specs.Texts.{cut_at_dots}
use Rattle.semver_texts.specs.Versions.{VersionValue}
use Rattle.semver_versions.specs.VersionRefs.{VersionRefValue, identifier_of}
use Rattle.semver_versions.proofs.BorrowedVersions.{if_ok_more, kept_of}
use Rattle.semver_versions.proofs.version_ref.VersionRef.pre_identifiers.Goals as goal

pub returns-clause-kept : goal.returns-clause-kept
returns-clause-kept c =
    if_ok_more c.identifiers.result (λ ids is. is ∙ ap (λ t. map identifier_of (cut_at_dots t))
    (ap (λ (o : VersionRefValue). o.pre) c.self.view_is))
    c.identifiers.ensures.kept

pub returns-clause-of_version : goal.returns-clause-of_version
returns-clause-of_version c =
    if_ok_more c.identifiers.result (λ ids is. ap (identifiers_by c.args.self.now.digits) is) (returns-clause-kept c)

pub returns-clause-identifiers : goal.returns-clause-identifiers
returns-clause-identifiers c = λ text v borrowed spells.
    if_ok_more c.identifiers.result (λ ids is. is
    ∙ ap (λ (w : VersionValue). w.plain.pre) (sym (kept_of _ text v spells c.args.self.now borrowed)))
    (returns-clause-kept c)

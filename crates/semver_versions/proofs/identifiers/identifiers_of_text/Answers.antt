use Rattle.std.proofs.Common.{rules}
use Rattle.std.proofs.lemmas.Result.{IfOk-weaker}
use Rattle.semver_texts.proofs.Lists.{zip_same}
use Rattle.semver_texts.specs.Texts.{cut_at_dots}
use Rattle.semver_texts.specs.VersionViews.{identifier_value}
use Rattle.semver_versions.specs.VersionRefs.{identifier_of}
use Rattle.semver_versions.proofs.identifiers.identifiers_of_text.Goals as goal

pub returns-clause-kept : goal.returns-clause-kept
returns-clause-kept c = IfOk-weaker c.of_parts.result _ _
    (λ ids made. zip_same identifier_value identifier_of (λ id part is. search rules) ids.items (cut_at_dots c.args.text.now) made)
    c.of_parts.ensures.made

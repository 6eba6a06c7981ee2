use Rattle.std.proofs.Common.{◌∙◌, ap}
use Rattle.semver_texts.specs.Digits.{plain_by}
use Rattle.version_sets.specs.VersionSets.{contains}
use Rattle.semver_texts.specs.VersionViews.{version_value}
use Rattle.release_filter.proofs.Matching.{member_as_meant}
use Rattle.release_filter.proofs.Tests.{filter-same}
use Rattle.release_filter.proofs.filter.filter_text.Goals as goal

pub returns-in-Ok-clause-kept : goal.returns-in-Ok-clause-kept
returns-in-Ok-clause-kept c = λ tree spells.
    c.in-Ok.ensures
    ∙ filter-same _ _ (λ v. member_as_meant c.args.compat tree c.in_ok-set.set v
    (λ fits. ap (λ d. contains c.in_ok-set.set (plain_by d (version_value v).plain)) c.in_ok-set.ensures.digits
    ∙ c.in_ok-set.ensures.meaning tree (version_value v) spells fits)) c.args.versions.now

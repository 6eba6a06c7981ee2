use Rattle.std.proofs.Common.{sym, true≢false, ◌∙◌}
use Rattle.semver_versions.specs.VersionRefs.{version_of}
use Rattle.tool_ranges.proofs.ReachedVersions.{all_pre_releases, only_releases, stated_pre_releases}
use Rattle.tool_ranges.proofs.at_or_above.has_some.Goals as goal

pub returns-in-Excluded : goal.returns-in-Excluded
returns-in-Excluded c = λ es begun fit.
    only_releases c.args.here.now (version_of c.args.version.now).plain es
    (λ has. true≢false (sym (c.has_release_from.ensures.1 has) ∙ c.if-has_release_from.false)) c.args.rule c.in-Excluded.is

pub returns-in-Included : goal.returns-in-Included
returns-in-Included c = λ es begun fit.
    all_pre_releases c.args.here.now (version_of c.args.version.now).plain es
    (λ has. true≢false (sym (c.has_release_from.ensures.1 has) ∙ c.if-has_release_from.false)) c.args.rule
    c.has_pre_release_from.result c.in-Included.is c.has_pre_release_from.ensures

pub returns-in-ByDialect : goal.returns-in-ByDialect
returns-in-ByDialect c = λ es begun fit.
    stated_pre_releases c.args.here.now (version_of c.args.version.now).plain es
    (λ has. true≢false (sym (c.has_release_from.ensures.1 has) ∙ c.if-has_release_from.false)) c.args.rule
    c.has_stated.result c.in-ByDialect.is (c.has_stated.ensures es begun fit)

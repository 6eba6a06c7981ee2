use Rattle.std.proofs.Common.{rules, ◌∙◌}
use Rattle.version_sets.proofs.EachAnswer.{between_two}
use Rattle.version_sets.proofs.version_set.VersionSet.contains_each.Goals as goal

pub returns-in-len2-clause-each : goal.returns-in-len2-clause-each
returns-in-len2-clause-each c =
    c.is_release_between-in-len2.ensures.each
    ∙ between_two c.self.inside.digits c.as_slice.result.now c.self.inside.releases.items c.self.inside.pre_releases.items _ c.args.self.now
    c.args.versions.now _ _ c.in-len2.len_at_least c.in-len2.len_below c.as_slice.ensures.value c.if-is_empty-2.ensures
    (search rules) c.self.view_is

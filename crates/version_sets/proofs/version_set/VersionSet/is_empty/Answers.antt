use Rattle.std.proofs.Common.{rules, ◌≡◌, ◌↔◌, true, ◌&&◌, subst, ap, sym, ◌∙◌}
use Rattle.semver_texts.specs.Versions.{PlainVersion}
use Rattle.semver_texts.specs.Texts.{is_empty}
use Rattle.version_sets.specs.Releases.{release_value}
use Rattle.semver_versions.specs.ReadVersions.{read_plain}
use Rattle.version_sets.specs.Steps.Places.{set_of}
use Rattle.version_sets.specs.VersionSets.{IsIn}
use Rattle.version_sets.proofs.Lists.{none_left}
use Rattle.version_sets.proofs.FirstBoundaries.{tells_empty}
use Rattle.version_sets.proofs.version_set.VersionSet.is_empty.Goals as goal

pub returns-then-is_empty : goal.returns-then-is_empty
returns-then-is_empty c =
    let set = set_of c.self.inside.digits c.self.inside.releases.items c.self.inside.pre_releases.items in
    let r = c.is_empty-then-is_empty.result in
    let first = none_left release_value c.self.inside.releases.items _ _ c.is_empty.ensures (search rules) in
    let second = none_left read_plain c.self.inside.pre_releases.items _ _ c.is_empty-then-is_empty.ensures (search rules) in
    subst (λ s. (r ≡ true) ↔ ((v : PlainVersion) → ¬ IsIn v s)) c.self.view_is
    (tells_empty set c.self.invariant r (second ∙ ap (λ b. b && is_empty set.pre_releases) (sym c.if-is_empty.true ∙ first)))

pub returns-else-is_empty : goal.returns-else-is_empty
returns-else-is_empty c =
    let set = set_of c.self.inside.digits c.self.inside.releases.items c.self.inside.pre_releases.items in
    let r = c.is_empty.result in
    let first = none_left release_value c.self.inside.releases.items _ _ c.is_empty.ensures (search rules) in
    subst (λ s. (r ≡ true) ↔ ((v : PlainVersion) → ¬ IsIn v s)) c.self.view_is
    (tells_empty set c.self.invariant r
    (c.if-is_empty.false ∙ ap (λ b. b && is_empty set.pre_releases) (sym c.if-is_empty.false ∙ first)))

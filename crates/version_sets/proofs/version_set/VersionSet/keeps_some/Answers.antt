use Rattle.std.proofs.Common.{rules, ◌≡◌, subst}
use Rattle.version_sets.specs.VersionSets.{IsNormal}
use Rattle.version_sets.specs.Steps.Combined.{keeps_some, pieces}
use Rattle.version_sets.proofs.SetLaws.{tells_some, by_first, by_second}
use Rattle.version_sets.proofs.version_set.VersionSet.keeps_some.Goals as goal

pub returns-then-keeps_some : goal.returns-then-keeps_some
returns-then-keeps_some c =
    let a = c.args.self.now in
    let b = c.args.other.now in
    let e : c.keeps_some.result ≡ keeps_some c.args.how (pieces a.releases b.releases) = search rules in
    tells_some c.args.how a b (subst IsNormal c.self.view_is c.self.invariant) (subst IsNormal c.other.view_is c.other.invariant)
    c.keeps_some.result (by_first _ _ _ e c.if-keeps_some.true)

pub returns-else-keeps_some : goal.returns-else-keeps_some
returns-else-keeps_some c =
    let a = c.args.self.now in
    let b = c.args.other.now in
    let e : c.keeps_some.result ≡ keeps_some c.args.how (pieces a.releases b.releases) = search rules in
    let f : c.keeps_some-else-keeps_some.result ≡ keeps_some c.args.how (pieces a.pre_releases b.pre_releases) = search rules in
    tells_some c.args.how a b (subst IsNormal c.self.view_is c.self.invariant) (subst IsNormal c.other.view_is c.other.invariant)
    c.keeps_some-else-keeps_some.result (by_second _ _ _ _ e c.if-keeps_some.false f)

use Rattle.std.proofs.Common.{rules, ◌≡◌, true, ap, ap₂, subst, sym, ◌∙◌}
use Rattle.version_sets.specs.Printable.{IsPrintable}
use Rattle.version_sets.specs.VersionSets.{SetValue, contains, IsNormal}
use Rattle.version_sets.specs.Steps.Places.{set_of}
use Rattle.version_sets.specs.Combinations.{keeps, KeepsSome}
use Rattle.version_sets.specs.Steps.Combined.{pieces, keeps_some, combined_sets}
use Rattle.version_sets.proofs.SetLaws.{combined-normal, combined-prints, contains-combined, some_release, some_pre_release}
use Rattle.version_sets.proofs.version_set.VersionSet.combined.Goals as goal

pub returns-in_err-releases-clause-out_of_memory : goal.returns-in_err-releases-clause-out_of_memory
returns-in_err-releases-clause-out_of_memory c =
    let a = set_of c.self.inside.digits c.self.inside.releases.items c.self.inside.pre_releases.items in
    let b = set_of c.other.inside.digits c.other.inside.releases.items c.other.inside.pre_releases.items in
    let some : keeps_some c.args.how (pieces a.releases b.releases) ≡ true = search rules in
    λ _.
    subst (λ (s : SetValue). KeepsSome c.args.how s c.args.other.now) c.self.view_is
    (subst (KeepsSome c.args.how a) c.other.view_is (some_release c.args.how a b c.self.invariant c.other.invariant some))

pub returns-in_err-pre_releases-clause-out_of_memory : goal.returns-in_err-pre_releases-clause-out_of_memory
returns-in_err-pre_releases-clause-out_of_memory c =
    let a = set_of c.self.inside.digits c.self.inside.releases.items c.self.inside.pre_releases.items in
    let b = set_of c.other.inside.digits c.other.inside.releases.items c.other.inside.pre_releases.items in
    let some : keeps_some c.args.how (pieces a.pre_releases b.pre_releases) ≡ true = search rules in
    λ _.
    subst (λ (s : SetValue). KeepsSome c.args.how s c.args.other.now) c.self.view_is
    (subst (KeepsSome c.args.how a) c.other.view_is (some_pre_release c.args.how a b c.self.invariant c.other.invariant some))

pub of_boundaries-requires : goal.of_boundaries-requires
of_boundaries-requires c =
    let a = set_of c.self.inside.digits c.self.inside.releases.items c.self.inside.pre_releases.items in
    let b = set_of c.other.inside.digits c.other.inside.releases.items c.other.inside.pre_releases.items in
    let made : set_of c.self.inside.digits c.in_ok-releases.releases.items c.in_ok-pre_releases.pre_releases.items
    ≡ combined_sets c.args.how a b = search rules in
    subst IsNormal (sym made) (combined-normal c.args.how a b c.self.invariant c.other.invariant)

pub returns-clause-contains : goal.returns-clause-contains
returns-clause-contains c = λ v.
    let a = set_of c.self.inside.digits c.self.inside.releases.items c.self.inside.pre_releases.items in
    let b = set_of c.other.inside.digits c.other.inside.releases.items c.other.inside.pre_releases.items in
    let made : c.of_boundaries.result ≡ combined_sets c.args.how a b = search rules in
    ap (λ s. contains s v) made ∙ contains-combined c.args.how a b c.self.invariant c.other.invariant v
    ∙ ap₂ (λ s t. keeps c.args.how (contains s v) (contains t v)) c.self.view_is c.other.view_is

pub returns-clause-printable : goal.returns-clause-printable
returns-clause-printable c = λ p q.
    let a = set_of c.self.inside.digits c.self.inside.releases.items c.self.inside.pre_releases.items in
    let b = set_of c.other.inside.digits c.other.inside.releases.items c.other.inside.pre_releases.items in
    let made : c.of_boundaries.result ≡ combined_sets c.args.how a b = search rules in
    subst IsPrintable (sym made)
    (combined-prints c.args.how a b c.self.invariant c.other.invariant (subst IsPrintable (sym c.self.view_is) p)
    (subst IsPrintable (sym c.other.view_is) q))

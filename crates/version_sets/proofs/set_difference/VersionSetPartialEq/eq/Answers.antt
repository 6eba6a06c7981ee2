use Rattle.std.proofs.Common.{rules, ◌≡◌, subst}
use Rattle.version_sets.specs.VersionSets.{same_set, IsNormal}
use Rattle.version_sets.proofs.SameSets.{same_is, same_versions}
use Rattle.version_sets.proofs.set_difference.VersionSetPartialEq.eq.Goals as goal

pub returns-then-are_same-clause-same_versions : goal.returns-then-are_same-clause-same_versions
returns-then-are_same-clause-same_versions c =
    let r = c.are_same-then-are_same.result in
    let e : r ≡ same_set c.args.self.now c.args.other.now = search rules in
    same_versions _ _ (subst IsNormal c.self.view_is c.self.invariant)
    (subst IsNormal c.other.view_is c.other.invariant) r e

pub returns-then-are_same-clause-one_form : goal.returns-then-are_same-clause-one_form
returns-then-are_same-clause-one_form c =
    let r = c.are_same-then-are_same.result in
    let e : r ≡ same_set c.args.self.now c.args.other.now = search rules in
    same_is _ _ r e

pub returns-else-are_same-clause-same_versions : goal.returns-else-are_same-clause-same_versions
returns-else-are_same-clause-same_versions c =
    let r = c.are_same.result in
    let e : r ≡ same_set c.args.self.now c.args.other.now = search rules in
    same_versions _ _ (subst IsNormal c.self.view_is c.self.invariant)
    (subst IsNormal c.other.view_is c.other.invariant) r e

pub returns-else-are_same-clause-one_form : goal.returns-else-are_same-clause-one_form
returns-else-are_same-clause-one_form c =
    let r = c.are_same.result in
    let e : r ≡ same_set c.args.self.now c.args.other.now = search rules in
    same_is _ _ r e

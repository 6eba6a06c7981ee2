use Rattle.std.proofs.Common.{rules, ◌≡◌, ap, sym, subst, ◌∙◌}
use Rattle.std.specs.Prelude.{slice_get, option_map}
use Rattle.version_sets.specs.Releases.{release_value}
use Rattle.version_sets.specs.VersionSets.{IsRelease}
use Rattle.version_sets.specs.Steps.Places.{set_of}
use Rattle.version_sets.proofs.FirstBoundaries.{TellsPlain, first_release, first_map, told_some, told_none}
use Rattle.version_sets.proofs.version_set.VersionSet.lowest_release.Goals as goal

told : (c : goal.After-copied) → TellsPlain IsRelease c.args.self.now (option_map release_value c.copied.result)
told c =
    let xs = c.self.inside.releases.items in
    let is : c.copied.result ≡ slice_get xs 0 = search rules in
    subst (λ s. TellsPlain IsRelease s (option_map release_value c.copied.result)) c.self.view_is
    (subst (TellsPlain IsRelease (set_of c.self.inside.digits xs c.self.inside.pre_releases.items))
    (sym (ap (option_map release_value) is ∙ first_map release_value xs))
    (first_release (set_of c.self.inside.digits xs c.self.inside.pre_releases.items) c.self.invariant))

pub returns-clause-lowest : goal.returns-clause-lowest
returns-clause-lowest c = told_some release_value IsRelease c.args.self.now c.copied.result (told c)

pub returns-clause-none : goal.returns-clause-none
returns-clause-none c = told_none release_value IsRelease c.args.self.now c.copied.result (told c)

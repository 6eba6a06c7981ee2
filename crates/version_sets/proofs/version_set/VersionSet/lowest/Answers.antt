use Rattle.std.proofs.Common.{◌≡◌, ap₂, sym, subst, ◌∙◌, Option, false, true, map}
use Rattle.std.specs.Prelude.{option_map, slice_get}
use Rattle.semver_texts.specs.Versions.{PlainVersion}
use Rattle.version_sets.specs.Releases.{release_value}
use Rattle.version_sets.specs.VersionSets.{Fits}
use Rattle.version_sets.specs.Steps.Lower.{lower}
use Rattle.semver_versions.specs.ReadVersions.{read_plain}
use Rattle.version_sets.specs.Steps.Places.{set_of}
use Rattle.version_sets.specs.Steps.Within.{first_value}
use Rattle.version_sets.proofs.FirstBoundaries.{TellsPlain, first_copied, first_is, is_told, pre_release_is}
use Rattle.version_sets.proofs.Lists.{answered_so, failed_so}
use Rattle.version_sets.proofs.version_set.VersionSet.lowest.Goals as goal

abbrev answer : goal.After-lower → Option PlainVersion
answer c = lower (option_map (first_value true release_value) c.at-release.result) (option_map (first_value false read_plain) c.at.result)

-- the first pre-release is the first boundary of the set's pre-releases
first_is_first : (c : goal.After-lower)
    → option_map (first_value false read_plain) c.at.result ≡ slice_get (map read_plain c.self.inside.pre_releases.items) 0
first_is_first c = c.at.ensures
    ∙ first_copied read_plain c.first-2.result _ c.self.inside.pre_releases.items c.first-2.ensures.value c.deref-2.ensures.value

told : (c : goal.After-lower) → TellsPlain Fits c.args.self.now (answer c)
told c =
    let set = set_of c.self.inside.digits c.self.inside.releases.items c.self.inside.pre_releases.items in
    subst (λ s. TellsPlain Fits s (answer c)) c.self.view_is
    (subst (TellsPlain Fits set)
    (sym (ap₂ lower (c.at-release.ensures
    ∙ first_copied release_value c.first.result _ c.self.inside.releases.items c.first.ensures.value c.deref.ensures.value)
    (first_is_first c)))
    (first_is set c.self.invariant))

pub returns-clause-lowest : goal.returns-clause-lowest
returns-clause-lowest c =
    answered_so _ c.lower.result c.lower.ensures.lowest (λ lowest is. (is_told Fits c.args.self.now (answer c) (told c) lowest is).is_lowest)

pub returns-clause-no_build : goal.returns-clause-no_build
returns-clause-no_build c =
    answered_so _ c.lower.result c.lower.ensures.lowest (λ lowest is. (is_told Fits c.args.self.now (answer c) (told c) lowest is).no_build)

pub returns-clause-none : goal.returns-clause-none
returns-clause-none c =
    answered_so _ c.lower.result c.lower.ensures.lowest (λ lowest is. (is_told Fits c.args.self.now (answer c) (told c) lowest is).none)

pub returns-clause-out_of_memory : goal.returns-clause-out_of_memory
returns-clause-out_of_memory c =
    failed_so _ c.lower.result c.lower.ensures.out_of_memory (λ _ (p, is, first). (
      p,
      subst (TellsPlain Fits c.args.self.now) first (told c),
      pre_release_is (set_of c.self.inside.digits c.self.inside.releases.items c.self.inside.pre_releases.items) c.self.invariant p
          (sym (first_is_first c) ∙ is),
    ))

use Rattle.std.proofs.Common.{◌≡◌, ap₂, sym, subst, ◌∙◌, Option, false, true, map}
use Rattle.std.specs.Prelude.{option_map, slice_get}
use Rattle.semver_texts.specs.Versions.{PlainVersion}
use Rattle.version_sets.specs.Comparisons.{TellsLowest, LowestIsPreRelease}
use Rattle.version_sets.specs.Releases.{release_value}
use Rattle.version_sets.specs.VersionSets.{SetValue, Fits}
use Rattle.version_sets.specs.Combinations.{IsKept}
use Rattle.version_sets.specs.Steps.Combined.{combined, combined_sets, pieces}
use Rattle.version_sets.specs.Steps.Lower.{lower}
use Rattle.semver_versions.specs.ReadVersions.{read_plain}
use Rattle.version_sets.specs.Steps.Places.{set_of}
use Rattle.version_sets.specs.Steps.Within.{first_value}
use Rattle.version_sets.proofs.FirstBoundaries.{TellsPlain, first_is, is_told, kept_lowest, kept_pre_release}
use Rattle.version_sets.proofs.Lists.{answered_so, failed_so}
use Rattle.version_sets.proofs.SetLaws.{combined-normal}
use Rattle.version_sets.proofs.version_set.VersionSet.lowest_combined.Goals as goal

abbrev first : goal.After-lower → SetValue
first c = set_of c.self.inside.digits c.self.inside.releases.items c.self.inside.pre_releases.items

abbrev second : goal.After-lower → SetValue
second c = set_of c.other.inside.digits c.other.inside.releases.items c.other.inside.pre_releases.items

abbrev answer : goal.After-lower → Option PlainVersion
answer c =
    lower (option_map (first_value true release_value) c.at.result) (option_map (first_value false read_plain) c.at-2.result)

-- the first pre-release that was found is the first boundary of the combination's pre-releases
first_is_first : (c : goal.After-lower)
    → option_map (first_value false read_plain) c.at-2.result
    ≡ slice_get (combined_sets c.args.how (first c) (second c)).pre_releases 0
first_is_first c =
    c.at-2.ensures
    ∙ c.first-pre_release.ensures
    ∙ ap₂ (λ xs ys. slice_get (combined c.args.how (pieces (map read_plain xs) (map read_plain ys))) 0)
    c.deref-3.ensures.value c.deref-4.ensures.value

told : (c : goal.After-lower) → TellsPlain Fits (combined_sets c.args.how (first c) (second c)) (answer c)
told c =
    let set = combined_sets c.args.how (first c) (second c) in
    subst (TellsPlain Fits set)
    (sym (ap₂ lower
    (c.at.ensures
    ∙ c.first-release.ensures
    ∙ ap₂ (λ xs ys. slice_get (combined c.args.how (pieces (map release_value xs) (map release_value ys))) 0)
    c.deref.ensures.value c.deref-2.ensures.value)
    (first_is_first c)))
    (first_is set (combined-normal c.args.how (first c) (second c) c.self.invariant c.other.invariant))

pub returns-clause-lowest : goal.returns-clause-lowest
returns-clause-lowest c =
    answered_so _ c.lower.result c.lower.ensures.lowest (λ lowest is.
    subst (λ s. TellsLowest (IsKept c.args.how s c.args.other.now) lowest) c.self.view_is
    (subst (λ s. TellsLowest (IsKept c.args.how (first c) s) lowest) c.other.view_is
    (kept_lowest c.args.how (first c) (second c) c.self.invariant c.other.invariant lowest (is_told Fits _ (answer c) (told c) lowest is))))

pub returns-clause-out_of_memory : goal.returns-clause-out_of_memory
returns-clause-out_of_memory c =
    failed_so _ c.lower.result c.lower.ensures.out_of_memory (λ _ (p, is, lowest).
    subst (λ s. LowestIsPreRelease (IsKept c.args.how s c.args.other.now)) c.self.view_is
    (subst (λ s. LowestIsPreRelease (IsKept c.args.how (first c) s)) c.other.view_is
    (kept_pre_release c.args.how (first c) (second c) c.self.invariant c.other.invariant p (sym (first_is_first c) ∙ is)
    (subst (TellsPlain Fits (combined_sets c.args.how (first c) (second c))) lowest (told c)))))

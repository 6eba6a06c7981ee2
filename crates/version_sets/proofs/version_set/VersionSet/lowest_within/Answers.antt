use Rattle.std.proofs.Common.{◌≡◌, ◌<◌, ◌^◌, Option, arith, false, true, map, subst, sym}
use Rattle.std.specs.Prelude.{option_map}
use Rattle.std.specs.List.{list_all}
use Rattle.semver_texts.specs.Versions.{PlainVersion}
use Rattle.semver_versions.specs.ReadVersions.{read_plain}
use Rattle.version_sets.specs.Releases.{release_value}
use Rattle.version_sets.specs.VersionSets.{IsWithin}
use Rattle.version_sets.specs.Steps.Lower.{lower}
use Rattle.version_sets.specs.Steps.Places.{set_of}
use Rattle.version_sets.specs.Steps.Within.{IsFirstInside, IsOfKindWithin, first_value}
use Rattle.version_sets.proofs.FirstBoundaries.{TellsPlain, first_within, is_told, within_pre_release}
use Rattle.version_sets.specs.Printable.{is_printable_boundary}
use Rattle.version_sets.proofs.Lists.{answered_so, failed_so}
use Rattle.version_sets.proofs.PartTexts.{lowest_parts}
use Rattle.version_sets.proofs.version_set.VersionSet.lowest_within.Goals as goal

abbrev release : goal.After-lower → Option PlainVersion
release c = option_map (first_value true release_value) c.first_inside-release.result

abbrev pre_release : goal.After-lower → Option PlainVersion
pre_release c = option_map (first_value false read_plain) c.first_inside.result

small : (c : goal.After-lower) → c.args.most < 2 ^ 64
small c = omega (arith, c.ranges.most)

first_pre : (c : goal.After-lower)
    → IsFirstInside (IsOfKindWithin false c.args.most) (map read_plain c.self.inside.pre_releases.items) (pre_release c)
first_pre c = subst (λ xs. IsFirstInside (IsOfKindWithin false c.args.most) (map read_plain xs) (pre_release c)) c.deref-2.ensures.value
    c.first_inside.ensures.first

told : (c : goal.After-lower) → TellsPlain (IsWithin c.args.most) c.args.self.now (lower (release c) (pre_release c))
told c =
    let releases = c.self.inside.releases.items in
    subst (λ s. TellsPlain (IsWithin c.args.most) s (lower (release c) (pre_release c))) c.self.view_is
    (first_within (set_of c.self.inside.digits releases c.self.inside.pre_releases.items) c.args.most (small c) (release c) (pre_release c)
    (subst (λ xs. IsFirstInside (IsOfKindWithin true c.args.most) (map release_value xs) (release c)) c.deref.ensures.value c.first_inside-release.ensures.first)
    (first_pre c))

pub returns-clause-lowest : goal.returns-clause-lowest
returns-clause-lowest c = answered_so _ c.lower.result c.lower.ensures.lowest
    (λ lowest is. (is_told (IsWithin c.args.most) c.args.self.now (lower (release c) (pre_release c)) (told c) lowest is).is_lowest)

pub returns-clause-none : goal.returns-clause-none
returns-clause-none c = answered_so _ c.lower.result c.lower.ensures.lowest
    (λ lowest is. (is_told (IsWithin c.args.most) c.args.self.now (lower (release c) (pre_release c)) (told c) lowest is).none)

pub returns-clause-out_of_memory : goal.returns-clause-out_of_memory
returns-clause-out_of_memory c =
    failed_so _ c.lower.result c.lower.ensures.out_of_memory (λ _ (p, is, first). (
      p,
      subst (TellsPlain (IsWithin c.args.most) c.args.self.now) first (told c),
      within_pre_release (set_of c.self.inside.digits c.self.inside.releases.items c.self.inside.pre_releases.items) c.args.most (small c) p
          (pre_release c) (first_pre c) is,
    ))

pub returns-clause-parts : goal.returns-clause-parts
returns-clause-parts c = λ printable.
    let prints = subst (λ xs. list_all is_printable_boundary (map read_plain xs) ≡ true) (sym c.deref-2.ensures.value)
    (subst (λ s. list_all is_printable_boundary s.pre_releases ≡ true) (sym c.self.view_is) printable) in
    answered_so _ c.lower.result c.lower.ensures.lowest
    (λ lowest is. lowest_parts c.first_inside-release.result c.first_inside.result lowest (c.first_inside.ensures.boundary is_printable_boundary prints) is)

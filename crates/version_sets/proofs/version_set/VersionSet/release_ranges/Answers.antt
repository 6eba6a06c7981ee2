use Rattle.std.proofs.Common.{rules, ◌≡◌, sym, ap, subst, ◌∙◌}
use Rattle.semver_ranges.specs.SatisfiedComparators.{meets_set}
use Rattle.semver_ranges.specs.RangeViews.{set_of as ranges_of_set}
use Rattle.semver_texts.specs.Versions.{PlainVersion}
use Rattle.version_sets.specs.Releases.{release_value}
use Rattle.version_sets.specs.Steps.Places.{set_of}
use Rattle.version_sets.specs.VersionSets.{IsIn, IsRelease, IsNormal}
use Rattle.version_sets.specs.SetRanges.{of_releases, release_ranges, ranges_text, ReadsBack}
use Rattle.semver_ranges.specs.declared.range.Compat.TheVariants.{Npm}
use Rattle.version_sets.specs.DigitViews.{set_kept}
use Rattle.version_sets.proofs.DigitLaws.{intervals_fit}
use Rattle.version_sets.proofs.ReadBack.{releases_print}
use Rattle.version_sets.proofs.FirstBoundaries.{first_release}
use Rattle.version_sets.proofs.Lists.{on_err}
use Rattle.version_sets.proofs.SetRangeLaws.{releases_meet, releases_read, has_one}
use Rattle.version_sets.proofs.version_set.VersionSet.release_ranges.Goals as goal

made : (c : goal.After-in_npm_mode) → ranges_of_set c.in_npm_mode.result.range_set ≡ release_ranges c.args.self.now
made c =
    let kept : ranges_of_set c.in_npm_mode.result.range_set ≡ set_kept (release_ranges c.args.self.now) = search rules in
    kept ∙ ap (λ ranges. record { ranges = ranges; compat = Npm }) (intervals_fit of_releases (λ a b p q. q) c.args.self.now.releases
    (releases_print c.args.self.now.releases (subst IsNormal c.self.view_is c.self.invariant).releases.are_of_kind))

pub returns-clause-ranges : goal.returns-clause-ranges
returns-clause-ranges c = made c

pub returns-in_err-ranges-clause-out_of_memory : goal.returns-in_err-ranges-clause-out_of_memory
returns-in_err-ranges-clause-out_of_memory c =
    let s = set_of c.self.inside.digits c.self.inside.releases.items c.self.inside.pre_releases.items in
    on_err c.from_residual.result
    (subst (λ t. (v : PlainVersion) × IsRelease v × IsIn v t) c.self.view_is
    (has_one IsRelease s release_value c.self.inside.releases.items (first_release s c.self.invariant) (search rules)))

pub returns-clause-meaning : goal.returns-clause-meaning
returns-clause-meaning c =
    λ v p. ap (meets_set v) (made c) ∙ releases_meet c.args.self.now (subst IsNormal c.self.view_is c.self.invariant) v p

pub returns-clause-reads_back : goal.returns-clause-reads_back
returns-clause-reads_back c =
    subst (λ r. ReadsBack (ranges_text r) IsRelease c.args.self.now) (sym (made c))
    (releases_read c.args.self.now (subst IsNormal c.self.view_is c.self.invariant) c.printed_sets_read_back.ensures.read_back)

use Rattle.std.proofs.Common.{rules, ◌≡◌, sym, ap, subst, ◌∙◌, IsTrue, not}
use Rattle.semver_ranges.specs.declared.range.Compat.TheVariants.{Npm}
use Rattle.semver_ranges.specs.RangeViews.{set_of as ranges_of_set}
use Rattle.semver_ranges.specs.RewritingTable.{PlainSet}
use Rattle.semver_texts.specs.Versions.{PlainVersion}
use Rattle.semver_versions.specs.ReadVersions.{read_plain}
use Rattle.version_sets.specs.Steps.Places.{set_of}
use Rattle.version_sets.specs.VersionSets.{IsIn, IsPreRelease, IsNormal}
use Rattle.version_sets.specs.SetRanges.{of_pre_releases, pre_release_ranges, is_whole, ranges_text, ReadsBack}
use Rattle.version_sets.specs.DigitViews.{set_kept}
use Rattle.version_sets.proofs.DigitLaws.{intervals_fit}
use Rattle.version_sets.proofs.ReadBack.{end_prints}
use Rattle.version_sets.proofs.FirstBoundaries.{first_pre_release}
use Rattle.version_sets.proofs.Lists.{on_err}
use Rattle.version_sets.proofs.SetRangeLaws.{pre_releases_meet, pre_releases_read, has_one}
use Rattle.version_sets.proofs.version_set.VersionSet.pre_release_ranges.Goals as goal

made : (c : goal.After-in_npm_mode)
    → ranges_of_set c.in_npm_mode.result.range_set ≡ set_kept (pre_release_ranges c.args.self.now)
made c = search rules

pub returns-in_err-ranges-clause-out_of_memory : goal.returns-in_err-ranges-clause-out_of_memory
returns-in_err-ranges-clause-out_of_memory c =
    let s = set_of c.self.inside.digits c.self.inside.releases.items c.self.inside.pre_releases.items in
    on_err c.from_residual.result
    (subst (λ t. (v : PlainVersion) × IsPreRelease v × IsIn v t) c.self.view_is
    (has_one IsPreRelease s read_plain c.self.inside.pre_releases.items (first_pre_release s c.self.invariant) (search rules)))

pub returns-clause-meaning : goal.returns-clause-meaning
returns-clause-meaning c =
    λ v p. pre_releases_meet c.args.self.now (subst IsNormal c.self.view_is c.self.invariant) v p

pub returns-clause-reads_back : goal.returns-clause-reads_back
returns-clause-reads_back c =
    λ prints.
    let fits = ap (λ ranges. record { ranges = ranges; compat = Npm })
    (intervals_fit of_pre_releases end_prints c.args.self.now.pre_releases prints) in
    subst (λ (r : PlainSet). IsTrue (not (is_whole r.ranges)) → ReadsBack (ranges_text r) IsPreRelease c.args.self.now)
    (sym (made c ∙ fits))
    (pre_releases_read c.args.self.now (subst IsNormal c.self.view_is c.self.invariant) c.printed_sets_read_back.ensures.read_back
    prints)

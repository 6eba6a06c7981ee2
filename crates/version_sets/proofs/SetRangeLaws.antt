-- A version satisfies the ranges of a set if and only if it is in the set, and the text of the
-- ranges reads back. A set that has a boundary of a kind contains a version of that kind.
use Rattle.std.proofs.Common.{arith, ◌≡◌, ◌<◌, not, List, [], ◌∷◌, map, length, IsTrue, sym, ◌∙◌}
use Rattle.std.specs.List.{list_all}
use Rattle.semver_texts.specs.Versions.{PlainVersion}
use Rattle.semver_ranges.specs.SatisfiedComparators.{meets_set}
use Rattle.semver_ranges.specs.PrintedRanges.{is_printable_version}
use Rattle.version_sets.specs.VersionSets.{SetValue, contains, IsIn, IsRelease, IsPreRelease, IsNormal}
use Rattle.version_sets.specs.SetRanges.{of_releases, of_pre_releases, release_ranges, pre_release_ranges, is_whole}
use Rattle.version_sets.specs.SetRanges.{ranges_text, ReadsBack}
use Rattle.std.specs.Prelude.{slice_get}
use Rattle.version_sets.proofs.FirstBoundaries.{TellsPlain}
use Rattle.version_sets.proofs.IntervalLaws.{intervals_meet}
use Rattle.version_sets.proofs.KindLaws.{releases_are_kind, pre_releases_are_kind}
use Rattle.version_sets.proofs.ReadBack.{PrintedReadBack, end_prints, releases_print, reads, whole_reads}
use Rattle.version_sets.proofs.SetLaws.{contains-release, contains-pre_release}

module _ (set : SetValue) (n : IsNormal set) where
  pub releases_meet : (v : PlainVersion) → IsRelease v → meets_set v (release_ranges set) ≡ contains set v
  releases_meet v p =
      intervals_meet IsRelease of_releases releases_are_kind v p set.releases n.releases.increase n.releases.are_of_kind
      ∙ sym (contains-release set v p.1)

  pub pre_releases_meet : (v : PlainVersion) → IsPreRelease v → meets_set v (pre_release_ranges set) ≡ contains set v
  pre_releases_meet v p =
      intervals_meet IsPreRelease of_pre_releases pre_releases_are_kind v p set.pre_releases n.pre_releases.increase
      n.pre_releases.are_of_kind
      ∙ sym (contains-pre_release set v p.1)

  pub releases_read : PrintedReadBack → ReadsBack (ranges_text (release_ranges set)) IsRelease set
  releases_read law =
      let prints = releases_print set.releases n.releases.are_of_kind in
      reads law IsRelease set of_releases (λ a b p q. q) set.releases prints releases_meet
      (whole_reads law IsRelease set of_releases (λ a b p q. q) set.releases prints releases_meet (λ v p. p.1))

  pub pre_releases_read : PrintedReadBack → IsTrue (list_all is_printable_version set.pre_releases)
      → IsTrue (not (is_whole (pre_release_ranges set).ranges)) → ReadsBack (ranges_text (pre_release_ranges set)) IsPreRelease set
  pre_releases_read law prints part =
      reads law IsPreRelease set of_pre_releases end_prints set.pre_releases prints pre_releases_meet (λ whole. absurd (cc (part, whole)))

-- if there is a boundary of a kind, the first one is in the set
pub has_one : {X : Type 0} (K : PlainVersion → Type 0) (set : SetValue) (f : X → PlainVersion) (xs : List X)
    → TellsPlain K set (slice_get (map f xs) 0) → 0 < length xs → (v : PlainVersion) × K v × IsIn v set
has_one K set f [] none some = absurd (omega arith)
has_one K set f (x ∷ xs) lowest some = (f x, lowest.is_of_kind, lowest.is_in)

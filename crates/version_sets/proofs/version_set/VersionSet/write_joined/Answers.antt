use Rattle.std.proofs.Common.{rules, ◌≡◌, ◌++◌, ◌∙◌, List, ap, ap₂, codes, map, false, sym}
use Rattle.std.proofs.Output.{has_written_append, has_written_of_eq}
use Rattle.semver_texts.specs.Texts.{is_empty}
use Rattle.semver_versions.specs.ReadVersions.{read_plain}
use Rattle.semver_versions.specs.declared.read_version.ReadVersion.{ReadVersion}
use Rattle.version_sets.specs.Releases.{release_value}
use Rattle.version_sets.specs.SetRanges.{intervals, kinds_text, npm_set, of_pre_releases, of_releases, ranges_text_by}
use Rattle.version_sets.specs.Steps.Places.{set_of}
use Rattle.version_sets.specs.declared.release.Release.{Release}
use Rattle.version_sets.proofs.Lists.{none_left}
use Rattle.version_sets.proofs.WrittenSets.{both_kinds}
use Rattle.version_sets.proofs.version_set.VersionSet.write_joined.Goals as goal

pub returns : goal.returns
returns g c = record {
  writes = λ plain ok.
      let joint = c.args.joint.now in
      let releases = c.self.inside.releases.items in
      let pre_releases = c.self.inside.pre_releases.items in
      let set = set_of c.self.inside.digits releases pre_releases in
      let first = c.in_ok-write_ranges.ensures plain (search rules) in
      let comma = c.in_ok-write_str-2.ensures.writes first.plain (search rules) in
      let last = c.write_ranges-3.ensures comma.plain ok in
      let some : is_empty set.releases ≡ false =
      sym (none_left release_value releases _ _ c.is_empty-2.ensures (search rules)) ∙ c.if-is_empty-2.false in
      let some_too : is_empty set.pre_releases ≡ false =
      sym (none_left read_plain pre_releases _ _ c.is_empty.ensures (search rules)) ∙ c.if-is_empty.false in
      let text = ap₂ (λ (rs : List Release) (ps : List ReadVersion). ranges_text_by joint (npm_set (intervals of_releases (map release_value rs)))
      ++ (codes ", pre-releases " ++ ranges_text_by joint (npm_set (intervals of_pre_releases (map read_plain ps)))))
      c.deref-2.ensures.value c.deref-3.ensures.value in
      has_written_of_eq _ _ _ _ _ (text ∙ both_kinds joint set some some_too ∙ ap (kinds_text joint) c.self.view_is)
      (has_written_append _ _ _ _ _ _ first (has_written_append _ _ _ _ _ _ comma last));
}

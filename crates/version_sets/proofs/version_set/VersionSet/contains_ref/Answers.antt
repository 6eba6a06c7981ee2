use Rattle.std.proofs.Common.{◌≡◌, Bool, ap, sym, ◌∙◌, map, not}
use Rattle.semver_texts.specs.Digits.{identifiers_by, plain_by}
use Rattle.semver_texts.specs.Precedence.{precedence}
use Rattle.semver_texts.specs.Texts.{is_empty}
use Rattle.semver_texts.specs.declared.grammar.Digits.{Digits}
use Rattle.semver_texts.specs.declared.grammar.Grammar.TheVariants.{Crate}
use Rattle.semver_versions.specs.VersionRefs.{VersionRefValue, kept_version_of, version_of}
use Rattle.semver_versions.specs.ReadVersions.{read_plain}
use Rattle.version_sets.specs.Boundaries.{is_inside}
use Rattle.version_sets.specs.VersionSets.{SetValue, contains, contains_kept}
use Rattle.version_sets.proofs.DigitLaws.{by_empty}
use Rattle.version_sets.proofs.BorrowedPlaces.{of_texts, pre_release_has, release_is}
use Rattle.version_sets.proofs.version_set.VersionSet.contains_ref.Goals as goal

-- whether a version has a pre-release doesn't depend on how its identifiers of digits are read
told : (o : VersionRefValue) (digits : Digits) (answer : Bool) → answer ≡ not (is_empty (version_of o).plain.pre)
    → answer ≡ not (is_empty (identifiers_by digits (kept_version_of o).plain.pre))
told o digits answer is =
    let ids = (kept_version_of o).plain.pre in
    is ∙ ap not (by_empty o.digits ids ∙ sym (by_empty digits ids))

pub returns-then-is_pre_release : goal.returns-then-is_pre_release
returns-then-is_pre_release c =
    let set = c.args.self.now in
    let v = plain_by c.self.inside.digits (kept_version_of c.args.borrowed.now).plain in
    let is : c.contains_ref.result ≡ contains_kept set (kept_version_of c.args.borrowed.now).plain =
    c.contains_ref.ensures
    ∙ ap (λ boundaries. is_inside precedence (map read_plain boundaries) v) c.deref.ensures.value
    ∙ ap (λ (s : SetValue). is_inside precedence s.pre_releases v) c.self.view_is
    ∙ pre_release_has v set c.is_pre_release.result c.if-is_pre_release.true (told c.args.borrowed.now c.self.inside.digits _ c.is_pre_release.ensures.of_version)
    ∙ ap (λ (s : SetValue). contains set (plain_by s.digits (kept_version_of c.args.borrowed.now).plain)) c.self.view_is in
    let laws = c.one_borrowed_version.ensures in
    record {
      contains = of_texts set c.args.borrowed.now (laws.same_version Crate c.args.borrowed.now)
          (laws.same_version_ref c.args.borrowed.now) _ is;
      of_version = is;
    }

pub returns : goal.returns
returns c =
    let set = c.args.self.now in
    let is : c.contains_release.result ≡ contains_kept set (kept_version_of c.args.borrowed.now).plain =
    c.contains_release.ensures.contains
    ∙ ap (contains set) (release_is (plain_by set.digits (kept_version_of c.args.borrowed.now).plain) c.is_pre_release.result
    c.if-is_pre_release.false (told c.args.borrowed.now set.digits _ c.is_pre_release.ensures.of_version) _ _ _ c.major.ensures c.minor.ensures c.patch.ensures) in
    let laws = c.one_borrowed_version.ensures in
    record {
      contains = of_texts set c.args.borrowed.now (laws.same_version Crate c.args.borrowed.now)
          (laws.same_version_ref c.args.borrowed.now) _ is;
      of_version = is;
    }

-- A means of proof: the version that precedence compares, the value of a `VersionSet`, and the two
-- kinds of versions.
use Rattle.std.specs.Prelude.{◌≡◌, Bool, List, map}
use Rattle.semver_texts.specs.Texts.{is_empty}
use Rattle.semver_texts.specs.Versions.{PlainVersion}
use Rattle.semver_texts.specs.VersionViews.{version_value}
use Rattle.semver_texts.specs.declared.grammar.Digits.{Digits}
use Rattle.semver_texts.specs.declared.version.Version.{Version}
use Rattle.version_sets.specs.Releases.{release_value}
use Rattle.version_sets.specs.VersionSets.{Fits, SetValue}
use Rattle.semver_versions.specs.declared.read_version.ReadVersion.{ReadVersion}
use Rattle.semver_versions.specs.ReadVersions.{read_plain}
use Rattle.version_sets.specs.declared.release.Release.{Release}

abbrev pub version_place : Version → PlainVersion
version_place v = (version_value v).plain

abbrev pub set_of : Digits → List Release → List ReadVersion → SetValue
set_of digits releases pre_releases = record {
  releases = map release_value releases;
  pre_releases = map read_plain pre_releases;
  digits = digits;
}

-- the versions of a kind: the releases, or the pre-releases
abbrev pub IsOfKind : Bool → PlainVersion → Type 0
IsOfKind are_releases v = Fits v × (is_empty v.pre ≡ are_releases)

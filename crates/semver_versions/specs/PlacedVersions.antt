-- Borrowed versions without their texts: the numbers, and the place of the pre-release.
use Rattle.std.specs.Prelude.{◌≡◌, length}
use Rattle.semver_texts.specs.Texts.{Text}
use Rattle.semver_versions.specs.declared.placed.PlacedVersion.{PlacedVersion}
use Rattle.semver_versions.specs.VersionRefs.{StandsAt, VersionRefValue}
use Rattle.semver_versions.specs.Steps.Reading.{ArePartTexts}

-- a borrowed version without its text and without build metadata
abbrev pub placed_of : VersionRefValue → PlacedVersion
placed_of o = record {
  major = o.major;
  minor = o.minor;
  patch = o.patch;
  before_pre = o.pre_offset;
  pre_len = length o.pre;
  digits = o.digits;
}

-- it is that of a borrowed version whose pre-release is in the text
pub record IsPlacedIn (text : Text) (placed : PlacedVersion) : Type 0 where
  pub version : VersionRefValue
  pub is : placed ≡ placed_of version
  pub place : StandsAt version.pre_offset version.pre text
  pub parts : ArePartTexts version.pre

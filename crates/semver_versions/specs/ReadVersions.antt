-- The value of a version in the dialect in which it was read.
use Rattle.semver_texts.specs.Digits.{plain_by}
use Rattle.semver_texts.specs.VersionViews.{version_value}
use Rattle.semver_texts.specs.Versions.{PlainVersion}
use Rattle.semver_versions.specs.declared.read_version.ReadVersion.{ReadVersion}

-- the version without build metadata, with its identifiers of digits as the dialect reads them
abbrev pub read_plain : ReadVersion → PlainVersion
read_plain r = plain_by r.digits (version_value r.version).plain

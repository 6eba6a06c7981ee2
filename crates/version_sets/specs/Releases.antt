-- The version that a `Release` is in contracts: one without a pre-release.
use Rattle.std.specs.Prelude.{[]}
use Rattle.semver_texts.specs.Versions.{PlainVersion}
use Rattle.version_sets.specs.declared.release.Release.{Release}

abbrev pub release_value : Release → PlainVersion
release_value r = record { major = r.major; minor = r.minor; patch = r.patch; pre = [] }

-- The values of versions, as contracts see them, independent of where they are in memory.
use Rattle.std.specs.Prelude.{map, string_bytes}
use Rattle.semver_texts.specs.declared.version.Identifier.{Identifier}
use Rattle.semver_texts.specs.declared.version.Identifier.TheVariants.{Numeric, AlphaNumeric}
use Rattle.semver_texts.specs.declared.version.Version.{Version}
use Rattle.semver_texts.specs.Versions.{IdentifierValue, numeric, alphanumeric, VersionValue}

-- the value of an identifier
abbrev pub identifier_value : Identifier → IdentifierValue
identifier_value (Numeric n) = numeric n
identifier_value (AlphaNumeric s) = alphanumeric (string_bytes s)

-- the value of a version
abbrev pub version_value : Version → VersionValue
version_value v = record {
  plain =
      record {
        major = v.major;
        minor = v.minor;
        patch = v.patch;
        pre = map identifier_value
            v.pre.items;
      };
  build = map identifier_value v.build.items;
}

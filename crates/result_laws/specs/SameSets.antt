-- When two sets or ranges are equal, and the result of a comparison of two sets as a value.
use Rattle.std.specs.Prelude.{◌≡◌, Option, option_map}
use Rattle.semver_parser.specs.Versions.{PlainVersion, VersionValue}
use Rattle.semver_parser.specs.VersionViews.{version_value}
use Rattle.tool_ranges.specs.VersionRanges.{RangeValue}
use Rattle.version_sets.specs.VersionSets.{SetValue, contains, Fits}
use Rattle.version_sets.specs.declared.Comparison.{Comparison}

-- two sets are equal if they read digits in the same way and contain the same versions, of those
-- whose numbers fit 64 bits
abbrev pub AreAlike : SetValue → SetValue → Type 0
AreAlike a b = a.digits ≡ b.digits
    → ((v : PlainVersion) → Fits v → contains a v ≡ contains b v) → a ≡ b

-- two ranges are equal if they have the same meaning and contain the same versions, of those whose
-- numbers fit 64 bits
abbrev pub AreAlikeRanges : RangeValue → RangeValue → Type 0
AreAlikeRanges a b = a.meaning ≡ b.meaning
    → ((v : PlainVersion) → Fits v → contains a.versions v ≡ contains b.versions v) → a ≡ b

-- the three versions of a comparison, each of which may be missing
pub record ComparisonValue : Type 0 where
  pub lost : Option VersionValue
  pub gained : Option VersionValue
  pub shared : Option VersionValue

-- a comparison with the values of its versions
abbrev pub comparison_value : Comparison → ComparisonValue
comparison_value c = record {
  lost = option_map version_value c.lost;
  gained = option_map version_value c.gained;
  shared = option_map version_value c.shared;
}

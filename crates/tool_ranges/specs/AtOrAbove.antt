-- Whether a range has a version at or above another one.
use Rattle.std.specs.Prelude.{◌≡◌, ◌≢◌, true}
use Rattle.std.specs.declared.cmp.Ordering.TheVariants.{Less}
use Rattle.semver_texts.specs.Precedence.{precedence}
use Rattle.semver_texts.specs.Versions.{PlainVersion, VersionValue}
use Rattle.semver_ranges.specs.RangeTree.{SetTree}
use Rattle.version_sets.specs.VersionSets.{Fits}
use Rattle.tool_ranges.specs.Meanings.{meant_as}
use Rattle.tool_ranges.specs.declared.meaning.Rules.{Rules}

-- some version that satisfies a tree isn't below v by precedence
abbrev pub HasAtOrAbove : Rules → SetTree → PlainVersion → Type 0
HasAtOrAbove m tree v = (w : VersionValue) × Fits w.plain × (meant_as m tree w ≡ true)
    × (precedence w.plain v ≢ Less)

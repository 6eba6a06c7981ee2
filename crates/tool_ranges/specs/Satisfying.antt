-- Whether a version text satisfies a range text, or which of the two is invalid.
use Rattle.std.specs.Prelude.{◌≡◌, ◌⊎◌, Bool, Result, Ok, Err}
use Rattle.semver_texts.specs.ToolVersions.{IsVersionTextIn, SpellsIn}
use Rattle.semver_ranges.specs.declared.range_set.RangeError.TheVariants.{NotARange}
use Rattle.semver_ranges.specs.declared.range_set.RangeError.TheVariants.{NumberTooLarge}
use Rattle.semver_ranges.specs.declared.range_set.RangeError.TheVariants.{OutOfMemory}
use Rattle.semver_texts.specs.Texts.{Text}
use Rattle.semver_texts.specs.Versions.{VersionValue}
use Rattle.semver_ranges.specs.RangeTree.{SetTree}
use Rattle.tool_ranges.specs.Dialects.{HasSetAs, IsTextAs, IsTooLargeAs, SpellsAs}
use Rattle.semver_ranges.specs.DialectTable.{grammar_of}
use Rattle.tool_ranges.specs.Meanings.{meant_as}
use Rattle.tool_ranges.specs.declared.meaning.Rules.{Rules}
use Rattle.tool_ranges.specs.declared.satisfying.SatisfiesError.{SatisfiesError}
use Rattle.tool_ranges.specs.declared.satisfying.SatisfiesError.TheVariants.{InvalidRange}
use Rattle.tool_ranges.specs.declared.satisfying.SatisfiesError.TheVariants.{InvalidVersion}

-- the result for a version and a range text: whether the version satisfies the range, or the error
-- of the range text
abbrev pub AnswersOf : Rules → VersionValue → Text → Result Bool SatisfiesError → Type 0
AnswersOf m v range (Ok met) = HasSetAs m.dialect range
    × ((tree : SetTree) → SpellsAs m.dialect tree range → met ≡ meant_as m tree v)
AnswersOf m v range (Err InvalidVersion) = ⊥
AnswersOf m v range (Err (InvalidRange NotARange)) = ¬ (IsTextAs m.dialect range)
AnswersOf m v range (Err (InvalidRange NumberTooLarge)) = IsTooLargeAs m.dialect range
AnswersOf m v range (Err (InvalidRange OutOfMemory)) = ⊥

-- the result for a version text and a range text: `InvalidVersion` if the first is invalid,
-- otherwise the result for its version
abbrev pub Satisfies : Rules → Text → Text → Result Bool SatisfiesError → Type 0
Satisfies m version range r =
    ((¬ (IsVersionTextIn (grammar_of m.dialect) version)) × (r ≡ Err InvalidVersion))
    ⊎ ((v : VersionValue) × SpellsIn (grammar_of m.dialect) v version × AnswersOf m v range r)

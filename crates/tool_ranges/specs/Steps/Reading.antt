-- A means of proof, which no public clause cites: what is known of a range text that was read, and
-- why it is invalid.
use Rattle.std.specs.Prelude.{◌≡◌, false, Some, None, IsTrue}
use Rattle.semver_texts.specs.Texts.{Text}
use Rattle.semver_ranges.specs.declared.range_set.RangeError.{RangeError}
use Rattle.semver_ranges.specs.declared.range_set.RangeError.TheVariants.{NotARange, NumberTooLarge}
use Rattle.semver_ranges.specs.declared.range_set.RangeError.TheVariants.{OutOfMemory}
use Rattle.semver_ranges.specs.RangeTree.{SetTree}
use Rattle.semver_ranges.specs.declared.dialect.Dialect.{Dialect}
use Rattle.tool_ranges.specs.Dialects.{fits_as}
use Rattle.tool_ranges.specs.Steps.TextEvents.{read_as}

-- a text has a tree whose numbers fit and that has some property
abbrev pub IsRead : Dialect → Text → (SetTree → Type 0) → Type 0
IsRead dialect t Is = (tree : SetTree) × (read_as dialect t ≡ Some tree)
    × IsTrue (fits_as dialect tree) × Is tree

-- why a call that does not allocate returns an error
abbrev pub IsRefusedAs : Dialect → Text → RangeError → Type 0
IsRefusedAs dialect t NotARange = read_as dialect t ≡ None
IsRefusedAs dialect t NumberTooLarge = (tree : SetTree) × (read_as dialect t ≡ Some tree)
    × (fits_as dialect tree ≡ false)
IsRefusedAs dialect t OutOfMemory = ⊥

-- Which texts are range texts, which of these have a set, and which have a number that is too
-- large; and which error a call returns for a text.
use Rattle.std.specs.Prelude.{◌≡◌, ◌↔◌, false, IsTrue, Result, Err, IfOk}
use Rattle.semver_ranges.specs.declared.range.Compat.{Compat}
use Rattle.semver_ranges.specs.declared.range_set.RangeError.{RangeError}
use Rattle.semver_ranges.specs.declared.range_set.RangeError.TheVariants.{NotARange, NumberTooLarge}
use Rattle.semver_ranges.specs.declared.range_set.RangeError.TheVariants.{OutOfMemory}
use Rattle.semver_ranges.specs.RangeTree.{SetTree, Spells}
use Rattle.semver_texts.specs.Texts.{Text}
use Rattle.semver_ranges.specs.RewritingTable.{fits}

-- some tree spells the text
abbrev pub IsRangeText : Text → Type 0
IsRangeText t = (tree : SetTree) × Spells tree t

-- some tree spells the text, and fits
abbrev pub HasSet : Compat → Text → Type 0
HasSet mode t = (tree : SetTree) × Spells tree t × IsTrue (fits mode tree)

-- some tree spells the text, and a number that it states, or a number of a raised bound, is above
-- 2^64 - 1
abbrev pub IsTooLarge : Compat → Text → Type 0
IsTooLarge mode t = (tree : SetTree) × Spells tree t × (fits mode tree ≡ false)

-- which error a call returns for a text. It returns `NotARange` if and only if the text isn't in
-- the grammar (`IsText`), and `NumberTooLarge` if and only if one of its numbers is too large
-- (`HasLargeNumber`). It returns a result or `OutOfMemory` only if the text is in the grammar and
-- its numbers fit (`Fits`)
pub record Refuses {A : Type 0} (IsText HasLargeNumber Fits : Type 0) (r : Result A RangeError)
    : Type 0 where
  pub accepted : IfOk r (λ _. Fits)
  pub not_a_range : (r ≡ Err NotARange) ↔ ¬ IsText
  pub too_large : (r ≡ Err NumberTooLarge) ↔ HasLargeNumber
  pub out_of_memory : r ≡ Err OutOfMemory → Fits

-- which error is returned by a call that reads a range text in a mode
abbrev pub RefusesExactly : {A : Type 0} → Compat → Text → Result A RangeError → Type 0
RefusesExactly mode t r = Refuses (IsRangeText t) (IsTooLarge mode t) (HasSet mode t) r

-- The same errors of two calls, which return different types or differ in how they test whether the
-- numbers of a term fit.
use Rattle.std.proofs.Common.{◌≡◌, Bool, false, rules}
use Rattle.std.specs.Prelude.{IsTrue, Result, Err}
use Rattle.semver_texts.specs.Texts.{Text}
use Rattle.semver_ranges.specs.declared.range_set.RangeError.{RangeError}
use Rattle.semver_ranges.specs.RangeTexts.{IsRangeText, Refuses}
use Rattle.semver_ranges.specs.RangeTree.{SetTree, Simple, Spells}
use Rattle.semver_ranges.specs.RewritingTable.{fits_by}

-- an error of a call that otherwise returns `A`
abbrev failed : (A : Type 0) → RangeError → Result A RangeError
failed A e = Err e

pub same_refusal : (A B IsText HasLargeNumber HasSet : Type 0) (e : RangeError)
    → Refuses IsText HasLargeNumber HasSet (failed A e) → Refuses IsText HasLargeNumber HasSet (failed B e)
same_refusal A B IsText HasLargeNumber HasSet e r = search rules

-- the errors of a call, if `fit` decides which terms fit
abbrev pub Refused : {A : Type 0} → Text → Result A RangeError → (Simple → Bool) → Type 0
Refused t r fit = Refuses (IsRangeText t) ((tree : SetTree) × Spells tree t × (fits_by fit tree ≡ false))
    ((tree : SetTree) × Spells tree t × IsTrue (fits_by fit tree)) r

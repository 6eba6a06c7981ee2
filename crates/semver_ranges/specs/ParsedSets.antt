-- The contract of `RangeSet::parse` for a text, a mode and a result, as one proposition.
use Rattle.std.specs.Prelude.{◌≡◌, ◌⊎◌, [], IsTrue, Result, Err, IfOk}
use Rattle.std.specs.Result.{IsOkAnd}
use Rattle.semver_ranges.specs.declared.range.Compat.{Compat}
use Rattle.semver_ranges.specs.declared.range_set.RangeSet.{RangeSet}
use Rattle.semver_ranges.specs.declared.range_set.RangeError.{RangeError}
use Rattle.semver_ranges.specs.declared.range_set.RangeError.TheVariants.{OutOfMemory}
use Rattle.semver_ranges.specs.RangeTree.{SetTree, Spells}
use Rattle.semver_texts.specs.Texts.{Text}
use Rattle.semver_texts.specs.Versions.{PlainVersion}
use Rattle.semver_ranges.specs.CrateMeaning.{meets_tree}
use Rattle.semver_ranges.specs.RewritingTable.{PlainSet, rewritten}
use Rattle.semver_ranges.specs.RangeTexts.{RefusesExactly}
use Rattle.semver_ranges.specs.SatisfiedComparators.{meets_set, meets_tree_or_bounds}
use Rattle.semver_ranges.specs.PrintedRanges.{IsPrintableSet, set_text}
use Rattle.semver_ranges.specs.RangeViews.{set_of}

-- each field is the clause of `RangeSet::parse` that has its name
pub record IsParsed (mode : Compat) (t : Text) (r : Result RangeSet RangeError) : Type 0 where
  pub refusals : RefusesExactly mode t r
  pub as_rewritten : IfOk r (λ set. (tree : SetTree) → Spells tree t
      → set_of set ≡ rewritten mode tree)
  pub meaning : IfOk r (λ set. (tree : SetTree) (v : PlainVersion) → Spells tree t
      → meets_set v (set_of set) ≡ meets_tree_or_bounds mode tree v)
  pub releases : IfOk r (λ set. (tree : SetTree) (v : PlainVersion) → Spells tree t → v.pre ≡ []
      → meets_set v (set_of set) ≡ meets_tree mode tree v)
  pub implied : IfOk r (λ set. (tree : SetTree) (v : PlainVersion) → Spells tree t
      → IsTrue (meets_tree mode tree v) → IsTrue (meets_set v (set_of set)))
  pub printable : IfOk r (λ set. IsPrintableSet (set_of set))
  pub reads_back : (s : PlainSet) → IsPrintableSet s → s.compat ≡ mode → t ≡ set_text s
      → (r ≡ Err OutOfMemory) ⊎ IsOkAnd r (λ set. set_of set ≡ s)

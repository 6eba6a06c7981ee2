use Rattle.std.proofs.Common.{◌≡◌, ap, ◌∙◌}
use Rattle.std.specs.Prelude.{IfOk, Result, Ok, Err}
use Rattle.semver_texts.specs.Texts.{Text}
use Rattle.semver_texts.specs.Versions.{PlainVersion}
use Rattle.semver_ranges.specs.declared.range.Compat.TheVariants.{Npm}
use Rattle.semver_ranges.specs.declared.range_set.RangeError.{RangeError}
use Rattle.semver_ranges.specs.declared.range_set.RangeSet.{RangeSet}
use Rattle.semver_ranges.specs.declared.rewriting.Style.TheVariants.{Lowest}
use Rattle.semver_ranges.specs.SatisfiedComparators.{meets_set}
use Rattle.semver_ranges.specs.RangeTree.{SetTree}
use Rattle.semver_ranges.specs.RangeViews.{set_of}
use Rattle.version_sets.specs.declared.rules.PreReleases.TheVariants.{Included}
use Rattle.tool_ranges.specs.AnySize.{set_any}
use Rattle.tool_ranges.specs.Rewritten.{rewritten_included}
use Rattle.tool_ranges.specs.NpmGrammar.{SpellsNpmRange}
use Rattle.tool_ranges.specs.NpmMeaning.{meets_npm}
use Rattle.semver_ranges.specs.declared.dialect.Dialect.TheVariants as dialect
use Rattle.tool_ranges.specs.Steps.Printed.{IsPrintedAs}
use Rattle.tool_ranges.proofs.IncludedSets.{included_ranges}
use Rattle.tool_ranges.proofs.PrintedMeanings.{included_meets}
use Rattle.tool_ranges.proofs.npm.rewrite_included.Goals as goal

module _ (t : Text) where
  abbrev Printed : Result RangeSet RangeError → Type 0
  Printed r = IfOk r (λ set. IsPrintedAs Lowest dialect.Npm Npm t (set_of set))

  as_rewritten : (r : Result RangeSet RangeError) → Printed r
      → IfOk r (λ set. (tree : SetTree) → SpellsNpmRange tree t → set_of set ≡ rewritten_included tree)
  as_rewritten (Ok set) is = λ tree h. is tree h ∙ ap (λ ranges. record { ranges = ranges; compat = Npm }) (included_ranges tree)
  as_rewritten (Err e) is = tt

  versions : (r : Result RangeSet RangeError) → Printed r → IfOk r (λ set. (tree : SetTree) (v : PlainVersion)
      → SpellsNpmRange tree t → meets_set v (set_any (set_of set)) ≡ meets_npm Included tree v)
  versions (Ok set) is = λ tree v h. included_meets v tree (set_of set) (is tree h)
  versions (Err e) is = tt

pub returns-clause-as_rewritten : goal.returns-clause-as_rewritten
returns-clause-as_rewritten c = as_rewritten c.args.range.now c.rewrite_with.result c.rewrite_with.ensures.printed

pub returns-clause-versions : goal.returns-clause-versions
returns-clause-versions c = versions c.args.range.now c.rewrite_with.result c.rewrite_with.ensures.printed

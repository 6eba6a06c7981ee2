use Rattle.std.proofs.Common.{◌≡◌, IfOk, Result, subst, sym}
use Rattle.semver_ranges.specs.declared.range.Compat.{Compat}
use Rattle.semver_ranges.specs.declared.range_set.RangeError.{RangeError}
use Rattle.semver_ranges.specs.RangeTexts.{RefusesExactly}
use Rattle.semver_ranges.specs.RangeTree.{SetTree, Spells}
use Rattle.semver_texts.specs.Texts.{Text}
use Rattle.semver_texts.specs.Versions.{VersionValue}
use Rattle.version_sets.specs.PreReleaseRules.{meant_with}
use Rattle.version_sets.specs.VersionSets.{SetValue, contains, Fits}
use Rattle.version_sets.specs.declared.rules.PreReleases.TheVariants.{Excluded}
use Rattle.semver_ranges.proofs.FitCells.{own_fits}
use Rattle.tool_ranges.proofs.ReadSets.{Refused}
use Rattle.release_filter.proofs.filter.read_releases.Goals as goal

-- the result of reading a range text in a dialect
record Answers (t : Text) (r : Result SetValue RangeError) (compat : Compat) : Type 0 where
  pub refusals : RefusesExactly compat t r
  pub meaning : IfOk r (λ set. (tree : SetTree) (v : VersionValue) → Spells tree t → Fits v.plain
      → contains set v.plain ≡ meant_with Excluded compat tree v)

pub returns-in-Cargo : goal.returns-in-Cargo
returns-in-Cargo c =
    let e = c.read.ensures in
    let told = subst (Answers c.args.text.now c.read.result) (sym c.in-Cargo.is)
    (record {
      refusals = subst (Refused c.args.text.now c.read.result) (λ i s. (own_fits s).0 i) e.refusals;
      meaning = e.meaning;
    }) in
    record { refusals = told.refusals; meaning = told.meaning; digits = e.digits }

pub returns-in-Npm : goal.returns-in-Npm
returns-in-Npm c =
    let e = c.read-in-Npm.ensures in
    let told = subst (Answers c.args.text.now c.read-in-Npm.result) (sym c.in-Npm.is)
    (record {
      refusals = subst (Refused c.args.text.now c.read-in-Npm.result) (λ i s. (own_fits s).1 i) e.refusals;
      meaning = e.meaning;
    }) in
    record { refusals = told.refusals; meaning = told.meaning; digits = e.digits }

-- The dialects of range texts: which trees spell a text, which texts are invalid, and the
-- comparators that a text is rewritten to.
use Rattle.std.specs.Prelude.{◌≡◌, Bool, false, IsTrue, Result}
use Rattle.semver_ranges.specs.declared.range_set.RangeError.{RangeError}
use Rattle.semver_texts.specs.Texts.{Text}
use Rattle.semver_texts.specs.Versions.{PlainVersion}
use Rattle.semver_ranges.specs.declared.range.Compat.TheVariants as compat
use Rattle.semver_ranges.specs.CrateMeaning.{meets_tree}
use Rattle.semver_ranges.specs.RangeTree.{SetTree, Spells}
use Rattle.semver_ranges.specs.RangeTexts.{Refuses}
use Rattle.semver_ranges.specs.RewritingTable.{PlainSet, fits_by, set_by}
use Rattle.semver_ranges.specs.ExactBounds.{rewritten_exactly}
use Rattle.version_sets.specs.declared.rules.PreReleases.TheVariants.{ByDialect}
use Rattle.semver_ranges.specs.declared.rewriting.Style.TheVariants.{Exact}
use Rattle.semver_ranges.specs.DialectTable.{grammar_of, mode_of}
use Rattle.semver_ranges.specs.declared.dialect.Dialect.{Dialect}
use Rattle.semver_ranges.specs.declared.dialect.Dialect.TheVariants.{Cargo, Npm, CrateCargo}
use Rattle.semver_ranges.specs.declared.dialect.Dialect.TheVariants.{CrateNpm}
use Rattle.semver_ranges.specs.CargoGrammar.{SpellsRequirement, read_in}
use Rattle.tool_ranges.specs.CargoMeaning.{meets_requirement}
use Rattle.tool_ranges.specs.NpmGrammar.{SpellsNpmRange}
use Rattle.tool_ranges.specs.NpmMeaning.{meets_npm}
use Rattle.semver_ranges.specs.Sides.{term_fits}
use Rattle.semver_ranges.specs.TermComparators.{printed_term}

-- a tree spells a text in a dialect
abbrev pub SpellsAs : Dialect → SetTree → Text → Type 0
SpellsAs Cargo tree t = SpellsRequirement tree t
SpellsAs Npm tree t = SpellsNpmRange tree t
SpellsAs CrateCargo tree t = Spells tree t
SpellsAs CrateNpm tree t = Spells tree t

-- whether the numbers that a tree states, and those of its raised bounds, are at most 2^64 - 1, or
-- at most 2^53 - 1 in npm's dialect
abbrev pub fits_as : Dialect → SetTree → Bool
fits_as dialect tree = fits_by (λ s. term_fits dialect (read_in (grammar_of dialect) s)) tree

-- whether a release satisfies a tree
abbrev pub means_release : Dialect → SetTree → PlainVersion → Bool
means_release Cargo tree v = meets_requirement ByDialect tree v
means_release Npm tree v = meets_npm ByDialect tree v
means_release CrateCargo tree v = meets_tree compat.Cargo tree v
means_release CrateNpm tree v = meets_tree compat.Npm tree v

-- the plain comparators with exact bounds that a tree is rewritten to: in the crate's dialects
-- those of the crate's table, and in the others those of the sides of each term. An empty range, a
-- hyphen range without a number, and any other term that matches everything, is rewritten to
-- `>=0.0.0`
abbrev pub rewritten_as : Dialect → SetTree → PlainSet
rewritten_as CrateCargo tree = rewritten_exactly compat.Cargo tree
rewritten_as CrateNpm tree = rewritten_exactly compat.Npm tree
rewritten_as dialect tree =
    set_by (λ s. printed_term Exact dialect (read_in (grammar_of dialect) s)) (mode_of dialect) tree

-- the set is the one that each tree of the text is rewritten to
abbrev pub IsRewrittenAs : Dialect → Text → PlainSet → Type 0
IsRewrittenAs dialect t set =
    (tree : SetTree) → SpellsAs dialect tree t → set ≡ rewritten_as dialect tree

-- the text is a range in the dialect: some tree spells it
abbrev pub IsTextAs : Dialect → Text → Type 0
IsTextAs dialect t = (tree : SetTree) × SpellsAs dialect tree t

-- the text is a range in the dialect, and its numbers fit
abbrev pub HasSetAs : Dialect → Text → Type 0
HasSetAs dialect t =
    (tree : SetTree) × SpellsAs dialect tree t × IsTrue (fits_as dialect tree)

-- the text is a range in the dialect, and a stated number or one of a raised bound is too large
abbrev pub IsTooLargeAs : Dialect → Text → Type 0
IsTooLargeAs dialect t =
    (tree : SetTree) × SpellsAs dialect tree t × (fits_as dialect tree ≡ false)

-- when a call that reads a text in a dialect may succeed, and when it returns each error
abbrev pub RefusesAs : {A : Type 0} → Dialect → Text → Result A RangeError → Type 0
RefusesAs dialect t r = Refuses (IsTextAs dialect t) (IsTooLargeAs dialect t) (HasSetAs dialect t) r

-- How the version of a term may be replaced by another, so that the text stays a range.
use Rattle.std.specs.Prelude.{◌≡◌, ◌&&◌, not, Some, IsTrue, ◌++◌, drop, take}
use Rattle.semver_texts.specs.Texts.{Text}
use Rattle.semver_texts.specs.declared.grammar.Grammar.TheVariants as grammar
use Rattle.semver_ranges.specs.Partials.{states_nothing}
use Rattle.semver_ranges.specs.declared.operator.Operator.{Operator}
use Rattle.semver_ranges.specs.declared.operator.Operator.TheVariants.{Bare, Hyphen}
use Rattle.semver_ranges.specs.RangeTree.{PartialTree, Role, SpellsPartial, SpellsWord}
use Rattle.semver_ranges.specs.RangeTree.{after_hyphen, after_operator}
use Rattle.semver_ranges.specs.CargoGrammar.{is_partial_of_cargo}
use Rattle.tool_ranges.specs.Dialects.{IsTextAs}
use Rattle.semver_ranges.specs.declared.dialect.Dialect.{Dialect}
use Rattle.semver_ranges.specs.declared.dialect.Dialect.TheVariants as dialect
use Rattle.range_terms.specs.declared.term.Span.{Span}
use Rattle.range_terms.specs.WrittenTerms.{WrittenTerm, WrittenVersion}

-- the text with other bytes at a span
abbrev pub replaced : Text → Span → Text → Text
replaced t span word = take span.start t ++ (word ++ drop span.end t)

-- what is before the version of a term. Before the left version of a hyphen range there is no
-- operator
abbrev pub role_in : Operator → Role
role_in Hyphen = after_operator Bare
role_in operator = after_operator operator

-- a word that may replace another in a dialect. In Cargo's it states a number, since a comparator
-- that states none must be the only one
abbrev pub MayReplace : Dialect → Role → PartialTree → Text → Type 0
MayReplace dialect.Cargo role p word = SpellsPartial p word
    × IsTrue (is_partial_of_cargo p && not (states_nothing p))
MayReplace dialect.Npm role p word = SpellsWord grammar.Npm role p word
MayReplace dialect.CrateCargo role p word = SpellsWord grammar.Crate role p word
MayReplace dialect.CrateNpm role p word = SpellsWord grammar.Crate role p word

-- each version of a term may be replaced, and the text stays a range of the dialect
pub record IsReplaceable (d : Dialect) (t : Text) (x : WrittenTerm) : Type 0 where
  pub version : (p : PartialTree) (word : Text) → MayReplace d (role_in x.operator) p word
      → IsTextAs d (replaced t x.version.span word)
  pub upper : (v : WrittenVersion) → x.upper ≡ Some v → (p : PartialTree) (word : Text)
      → MayReplace d after_hyphen p word → IsTextAs d (replaced t v.span word)

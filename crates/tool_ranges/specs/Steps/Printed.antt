-- A means of proof, which no public clause cites: the comparators that are printed for the ranges
-- of a text.
use Rattle.std.specs.Prelude.{◌≡◌, List, map}
use Rattle.semver_texts.specs.Texts.{Text}
use Rattle.semver_ranges.specs.declared.range.Compat.{Compat}
use Rattle.semver_ranges.specs.RewritingTable.{PlainRange, PlainSet}
use Rattle.semver_ranges.specs.Steps.Answers.{range_of_simples}
use Rattle.semver_ranges.specs.RangeTree.{SetTree}
use Rattle.semver_ranges.specs.declared.rewriting.Style.{Style}
use Rattle.semver_ranges.specs.declared.dialect.Dialect.{Dialect}
use Rattle.tool_ranges.specs.Dialects.{SpellsAs}
use Rattle.semver_ranges.specs.TermComparators.{printed_term}
use Rattle.tool_ranges.specs.Steps.TextEvents.{ranges_of}

-- the comparators of the ranges of a tree
abbrev pub printed_ranges : Style → Dialect → Compat → SetTree → List PlainRange
printed_ranges style dialect mode tree =
    map (range_of_simples (printed_term style dialect) mode) (ranges_of dialect tree)

-- the set has the comparators that are printed for each tree of the text
abbrev pub IsPrintedAs : Style → Dialect → Compat → Text → PlainSet → Type 0
IsPrintedAs style dialect mode t set = (tree : SetTree) → SpellsAs dialect tree t
    → set ≡ record { ranges = printed_ranges style dialect mode tree; compat = mode }

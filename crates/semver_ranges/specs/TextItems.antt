-- What a range text consists of, from left to right: terms, empty ranges, and the bars between
-- ranges. Where something is follows from the text from its first byte on: its offset is the length
-- of the whole text without the length of that text.
use Rattle.std.specs.Prelude.{Option}
use Rattle.semver_texts.specs.Texts.{Text}
use Rattle.semver_ranges.specs.declared.operator.Operator.{Operator}
use Rattle.semver_ranges.specs.RangeTree.{PartialTree}

-- a partial version, the text from its word on, and what follows the word
pub record FoundWord : Type 0 where
  pub partial : PartialTree
  pub from : Text
  pub after : Text

-- a term: the text from its first byte on, its operator, and its word, or the two words of a hyphen
-- range
pub record FoundTerm : Type 0 where
  pub from : Text
  pub operator : Operator
  pub version : FoundWord
  pub upper : Option FoundWord

pub data Item : Type 0 where
  one_term : FoundTerm → Item
  empty_range two_bars : Item

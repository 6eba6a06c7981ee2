-- npm's range texts, and the trees that spell them. The trees are those of `RangeTree` in npm's
-- grammar, which has the limits of node-semver 7 on lengths. In addition, each non-ASCII character
-- has to be white space of JavaScript.
use Rattle.std.specs.Prelude.{ℕ, Bool, ◌||◌, IsTrue}
use Rattle.std.specs.Int.{is_in_range}
use Rattle.std.specs.List.{list_all}
use Rattle.std.specs.Str.{chars}
use Rattle.semver_texts.specs.Texts.{Text}
use Rattle.semver_texts.specs.WhiteSpace.{is_white_space_beyond_ascii}
use Rattle.semver_texts.specs.declared.grammar.Grammar.TheVariants.{Npm}
use Rattle.semver_ranges.specs.RangeTree.{SetTree, SpellsRangeIn}

-- whether a character is allowed in a range text: it is ASCII, or white space of JavaScript
abbrev pub may_stand : ℕ → Bool
may_stand c = is_in_range 0 127 c || is_white_space_beyond_ascii c

-- a tree spells a text in npm's dialect
pub record SpellsNpmRange (tree : SetTree) (t : Text) : Type 0 where
  pub spelled : SpellsRangeIn Npm tree t
  pub characters : IsTrue (list_all may_stand (chars t))

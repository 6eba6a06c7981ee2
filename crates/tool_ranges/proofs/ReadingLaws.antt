-- In each dialect, a text has at most one tree. Whether it is accepted doesn't depend on the value
-- that a call returns for it.
use Rattle.std.proofs.Common.{◌≡◌, Ok, rules}
use Rattle.semver_texts.specs.Texts.{Text}
use Rattle.semver_ranges.specs.RangeTexts.{Refuses}
use Rattle.semver_ranges.specs.RangeTree.{SetTree}
use Rattle.semver_ranges.specs.declared.dialect.Dialect.{Dialect}
use Rattle.tool_ranges.specs.Dialects.{SpellsAs}
use Rattle.tool_ranges.proofs.ReadTrees.{complete_as, same_read}

-- a text has at most one tree
pub one_tree : (dialect : Dialect) (tree other : SetTree) (t : Text) → SpellsAs dialect tree t → SpellsAs dialect other t
    → tree ≡ other
one_tree dialect tree other t h k = same_read dialect t tree other (complete_as dialect t tree h) k

-- if a text is accepted with one value, it is accepted with any other
pub answered_too : {A B : Type 0} (T L F : Type 0) (x : A) (y : B) → Refuses T L F (Ok x) → Refuses T L F (Ok y)
answered_too T L F x y r = search rules

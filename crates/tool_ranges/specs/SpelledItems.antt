-- The terms of a range text from left to right, the empty ranges, and the bars between ranges. They
-- follow from the pieces into which the grammar cuts the text.
use Rattle.std.specs.Prelude.{Some, None, List, [], ◌∷◌, ◌++◌, codes}
use Rattle.semver_texts.specs.Texts.{Text}
use Rattle.semver_texts.specs.declared.grammar.Grammar.{Grammar}
use Rattle.semver_texts.specs.declared.grammar.Grammar.TheVariants as grammar
use Rattle.semver_ranges.specs.declared.operator.Operator.{Operator}
use Rattle.semver_ranges.specs.declared.operator.Operator.TheVariants.{Bare, Hyphen}
use Rattle.semver_ranges.specs.RangeTree.{Simple, RangeTree, empty, hyphen, simples, SetTree}
use Rattle.semver_ranges.specs.RangeTree.{SpellsSimple, SpellsSimples, SpellsRange, SpellsPadded}
use Rattle.semver_ranges.specs.RangeTree.{SpellsRangeIn}
use Rattle.semver_ranges.specs.CargoGrammar.{comparators_of, SpellsComparator}
use Rattle.semver_ranges.specs.CargoGrammar.{SpellsComparators}
use Rattle.semver_ranges.specs.OperatorTable.{sign}
use Rattle.semver_ranges.specs.TextItems.{FoundTerm, Item, one_term, empty_range, two_bars}
use Rattle.semver_ranges.specs.declared.dialect.Dialect.{Dialect}
use Rattle.semver_ranges.specs.declared.dialect.Dialect.TheVariants.{Cargo, Npm}
use Rattle.tool_ranges.specs.Dialects.{SpellsAs}

-- ---- ranges. The text `after` follows each piece `t`

module _ (d : Grammar) where
  -- an operator, if there is one, and a word
  abbrev pub simple_item : (s : Simple) (t after : Text) → SpellsSimple d s t → Item
  simple_item s t after (front, word, operator, spelled, whole) =
      one_term (record {
        from = t ++ after;
        operator = s.operator;
        version = record { partial = s.partial; from = word ++ after; after = after };
        upper = None;
      })

  abbrev pub simples_items : (first : Simple) (others : List Simple) (t after : Text)
      → SpellsSimples d first others t → List Item
  simples_items first [] t after spelled = simple_item first t after spelled ∷ []
  simples_items first (next ∷ others) t after (front, gap, back, spelled, blanks, more, whole) =
      simple_item first front (gap ++ (back ++ after)) spelled
      ∷ simples_items next others back after more

  -- a hyphen range is one term with two words
  abbrev pub range_items : (r : RangeTree) (t after : Text) → SpellsRange d r t → List Item
  range_items empty t after spelled = empty_range ∷ []
  range_items (hyphen left right) t after (front, gap, gap', back, l, g, g', r, whole) =
      let rest = gap ++ (codes "-" ++ (gap' ++ (back ++ after))) in
      one_term (record {
        from = t ++ after;
        operator = Hyphen;
        version = record { partial = left; from = front ++ rest; after = rest };
        upper = Some (record { partial = right; from = back ++ after; after = after });
      })
      ∷ []
  range_items (simples first others) t after spelled = simples_items first others t after spelled

  abbrev pub padded_items : (r : RangeTree) (t after : Text) → SpellsPadded d r t → List Item
  padded_items r t after (before, inner, blanks, h, spelled, h', whole) =
      range_items r inner (blanks ++ after) spelled

  abbrev pub ranges_items : (tree : SetTree) (t : Text) → SpellsRangeIn d tree t → List Item
  ranges_items [] t spelled = []
  ranges_items (r ∷ []) t spelled = padded_items r t [] spelled
  ranges_items (r ∷ next ∷ others) t (front, back, spelled, more, whole) =
      padded_items r front (codes "||" ++ back) spelled
      ++ (two_bars ∷ ranges_items (next ∷ others) back more)

-- ---- comparators of Cargo

-- the text from an operator on, or from the word on if there is no operator
abbrev pub from_operator : Operator → Text → Text → Text
from_operator Bare gap word = word
from_operator operator gap word = sign operator ++ (gap ++ word)

abbrev pub comparator_term : (s : Simple) (t after : Text) → SpellsComparator s t → FoundTerm
comparator_term s t after spelled =
    record {
      from = from_operator s.operator spelled.gap (spelled.word ++ (spelled.after ++ after));
      operator = s.operator;
      version = record {
        partial = s.partial;
        from = spelled.word ++ (spelled.after ++ after);
        after = spelled.after ++ after;
      };
      upper = None;
    }

abbrev pub comparators_items : (ss : List Simple) (t : Text) → SpellsComparators ss t → List Item
comparators_items [] t spelled = []
comparators_items (s ∷ []) t spelled = one_term (comparator_term s t [] spelled) ∷ []
comparators_items (s ∷ next ∷ others) t (front, back, spelled, more, whole) =
    one_term (comparator_term s front (codes "," ++ back) spelled)
    ∷ comparators_items (next ∷ others) back more

-- ---- the whole text

abbrev pub items_in : (d : Dialect) (tree : SetTree) (t : Text) → SpellsAs d tree t → List Item
items_in Cargo tree t spelled = comparators_items (comparators_of tree) t spelled.comparators
items_in Npm tree t spelled = ranges_items grammar.Npm tree t spelled.spelled
items_in d tree t spelled = ranges_items grammar.Crate tree t spelled

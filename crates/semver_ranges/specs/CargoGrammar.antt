-- Cargo's requirements, and the texts that spell them: comparators separated by commas.
use Rattle.std.specs.Prelude.{◌≡◌, ◌≤◌, Bool, true, false, ◌&&◌, ◌||◌, ◌==◌, not}
use Rattle.std.specs.Prelude.{if◌then◌else◌, List, [], ◌∷◌, ◌++◌, length, codes, IsTrue}
use Rattle.std.specs.List.{list_all, list_any}
use Rattle.semver_texts.specs.Texts.{Text, is_empty}
use Rattle.semver_texts.specs.declared.grammar.Grammar.{Grammar}
use Rattle.semver_texts.specs.declared.grammar.Grammar.TheVariants.{Cargo}
use Rattle.semver_ranges.specs.declared.operator.Operator.{Operator}
use Rattle.semver_ranges.specs.declared.operator.Operator.TheVariants.{Bare, Equal, Caret}
use Rattle.semver_ranges.specs.OperatorTable.{sign}
use Rattle.semver_ranges.specs.RangeTree.{is_bare, is_of_term, PartialTree, one, Simple, SetTree}
use Rattle.semver_ranges.specs.RangeTree.{simples, AreBlanks, components, has_no_leading_zeros}
use Rattle.semver_ranges.specs.RangeTree.{qualifier, is_wildcard, SpellsPartial}
use Rattle.semver_ranges.specs.Partials.{stated, states_nothing}

-- whether each component after a wildcard is a wildcard
abbrev pub wildcards_are_last : List Text → Bool
wildcards_are_last [] = true
wildcards_are_last (c ∷ cs) =
    if is_wildcard c then list_all is_wildcard cs else wildcards_are_last cs

-- whether Cargo accepts a partial version: only wildcards follow a wildcard, a pre-release or build
-- metadata needs three stated numbers, and no part of the pre-release has a leading zero
abbrev pub is_partial_of_cargo : PartialTree → Bool
is_partial_of_cargo p = wildcards_are_last (components p)
    && ((is_empty (qualifier p) || length (stated p) == 3)
    && has_no_leading_zeros p)

-- whether a partial version has only one component
abbrev pub is_one : PartialTree → Bool
is_one (one a) = true
is_one _ = false

-- whether a comparator is a single wildcard without an operator, which contains every release
abbrev pub is_every : Simple → Bool
is_every s = is_bare s.operator && (is_one s.partial && states_nothing s.partial)

-- whether Cargo accepts a partial version after an operator: it is acceptable and states the first
-- number, unless it is a single wildcard without an operator
abbrev pub is_accepted : Simple → Bool
is_accepted s = is_partial_of_cargo s.partial && (is_every s || not (states_nothing s.partial))

-- whether Cargo, which has no hyphen ranges, accepts a comparator
abbrev pub is_of_cargo : Simple → Bool
is_of_cargo s = is_of_term s.operator && is_accepted s

-- a comparator's text: the sign of its operator and its partial version, with any number of spaces
-- before, between and after them
pub record SpellsComparator (s : Simple) (t : Text) : Type 0 where
  pub before : Text
  pub gap : Text
  pub word : Text
  pub after : Text
  pub before_is : AreBlanks Cargo before
  pub gap_is : AreBlanks Cargo gap
  pub after_is : AreBlanks Cargo after
  pub partial : SpellsPartial s.partial word
  pub is_read : IsTrue (is_of_cargo s)
  pub text : t ≡ before ++ (sign s.operator ++ (gap ++ (word ++ after)))

-- the text of one or more comparators, separated by commas
abbrev pub SpellsComparators : List Simple → Text → Type 0
SpellsComparators [] t = ⊥
SpellsComparators (s ∷ []) t = SpellsComparator s t
SpellsComparators (s ∷ next ∷ others) t = (front : Text) × (back : Text)
    × SpellsComparator s front × SpellsComparators (next ∷ others) back
    × (t ≡ front ++ (codes "," ++ back))

-- whether a comparator that states no number, if there is one, is the only comparator
abbrev pub stands_alone : List Simple → Bool
stands_alone (s ∷ []) = true
stands_alone ss = not (list_any (λ s. states_nothing s.partial) ss)

-- the comparators of a tree: the terms of its range if it has one range of terms, otherwise none
abbrev pub comparators_of : SetTree → List Simple
comparators_of (simples first others ∷ []) = first ∷ others
comparators_of _ = []

-- a requirement's text: one to 32 comparators; one that states no number is the only one
pub record SpellsRequirement (tree : SetTree) (t : Text) : Type 0 where
  pub comparators : SpellsComparators (comparators_of tree) t
  pub alone : IsTrue (stands_alone (comparators_of tree))
  pub few : length (comparators_of tree) ≤ 32

-- ---- the operator that Cargo reads

-- whether some component of a partial version is a wildcard
abbrev pub has_wildcard : PartialTree → Bool
has_wildcard p = list_any is_wildcard (components p)

-- the operator that Cargo reads: without one it is `^`, or `=` if there is a wildcard
abbrev pub named : Bool → Operator → Operator
named wild Bare = if wild then Equal else Caret
named wild operator = operator

-- a comparator with the operator that Cargo reads
abbrev pub as_read : Simple → Simple
as_read s = record { operator = named (has_wildcard s.partial) s.operator; partial = s.partial }

-- whether a grammar is Cargo's; and below, a term with the operator that a grammar reads
abbrev pub is_cargo : Grammar → Bool
is_cargo Cargo = true
is_cargo _ = false

abbrev pub read_in : Grammar → Simple → Simple
read_in d s = if is_cargo d then as_read s else s

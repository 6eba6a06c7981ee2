-- A means of proof, which no public clause cites: the tree of a range text in each dialect, and the
-- events of its terms, one after the other.
use Prim.Native.Char.{code}
use Rattle.std.specs.Prelude.{ℕ, suc, ◌==◌, nat_lt, Bool, true, if◌then◌else◌}
use Rattle.std.specs.Prelude.{Option, None, option_map, List, [], ◌∷◌, map}
use Rattle.std.specs.List.{list_all}
use Rattle.std.specs.Str.{chars}
use Rattle.semver_texts.specs.Texts.{Text}
use Rattle.semver_texts.specs.declared.grammar.Grammar.TheVariants as grammar
use Rattle.semver_ranges.specs.RangeTree.{Simple, SetTree, simples}
use Rattle.semver_ranges.specs.CargoGrammar.{as_read, comparators_of}
use Rattle.semver_ranges.specs.Steps.RangeEvents.{Event, comparators_left, in_front, next_range}
use Rattle.semver_ranges.specs.Steps.RangeEvents.{yielded}
use Rattle.semver_ranges.specs.Steps.Reading.{after_blanks, read}
use Rattle.semver_ranges.specs.declared.dialect.Dialect.{Dialect}
use Rattle.semver_ranges.specs.declared.dialect.Dialect.TheVariants.{Cargo, Npm, CrateCargo}
use Rattle.semver_ranges.specs.declared.dialect.Dialect.TheVariants.{CrateNpm}
use Rattle.tool_ranges.specs.NpmGrammar.{may_stand}

-- ---- the tree of a text, and the terms of its ranges

-- the number of commas, and below, whether they separate no more comparators than a requirement of
-- Cargo may have
abbrev pub commas : Text → ℕ
commas [] = 0
commas (b ∷ t) = if b == code "," then suc (commas t) else commas t

abbrev pub has_few_commas : Text → Bool
has_few_commas t = nat_lt (commas t) 32

-- whether a text has only characters and commas that a range may have
abbrev pub may_be_a_range : Dialect → Text → Bool
may_be_a_range Cargo t = has_few_commas t
may_be_a_range Npm t = list_all may_stand (chars t)
may_be_a_range _ t = true

-- the tree that has these comparators
abbrev pub tree_of : List Simple → SetTree
tree_of [] = []
tree_of (first ∷ others) = simples first others ∷ []

-- the tree of a requirement, however many comparators it has
abbrev pub requirement : Text → Option SetTree
requirement t = option_map tree_of (comparators_left true (after_blanks grammar.Cargo t))

abbrev pub read_as : Dialect → Text → Option SetTree
read_as Cargo t = if has_few_commas t then requirement t else None
read_as Npm t = if list_all may_stand (chars t) then read grammar.Npm t else None
read_as CrateCargo t = read grammar.Crate t
read_as CrateNpm t = read grammar.Crate t

abbrev pub ranges_of : Dialect → SetTree → List (List Simple)
ranges_of Cargo tree = map as_read (comparators_of tree) ∷ []
ranges_of dialect tree = map yielded tree

-- the events of ranges: their terms, with `next_range` between each two ranges
abbrev pub events_in : List (List Simple) → List Event
events_in [] = []
events_in (ss ∷ []) = in_front ss []
events_in (ss ∷ next ∷ others) = in_front ss (next_range ∷ events_in (next ∷ others))

abbrev pub text_events : Dialect → Text → Option (List Event)
text_events dialect t =
    option_map (λ tree. events_in (ranges_of dialect tree)) (read_as dialect t)

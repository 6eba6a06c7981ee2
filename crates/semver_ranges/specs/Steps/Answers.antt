-- A means of proof, cited only in clauses of calls between these crates: the result for a text, in
-- terms of the reader.
use Rattle.std.specs.Prelude.{List, [], ◌≡◌, Bool, false, IsTrue, Result, Ok, Err, Option, Some}
use Rattle.std.specs.Prelude.{None, ◌∷◌, ◌++◌}
use Rattle.std.specs.List.{list_all, flat_map}
use Rattle.semver_texts.specs.declared.grammar.Grammar.TheVariants.{Crate}
use Rattle.semver_ranges.specs.declared.range.Compat.{Compat}
use Rattle.semver_ranges.specs.declared.range_set.RangeSet.{RangeSet}
use Rattle.semver_ranges.specs.declared.range_set.RangeError.{RangeError}
use Rattle.semver_ranges.specs.declared.range_set.RangeError.TheVariants.{NotARange, NumberTooLarge}
use Rattle.semver_ranges.specs.declared.range_set.RangeError.TheVariants.{OutOfMemory}
use Rattle.semver_ranges.specs.RangeTree.{Simple, SetTree}
use Rattle.semver_texts.specs.Texts.{Text}
use Rattle.semver_texts.specs.Versions.{IdentifierValue}
use Rattle.semver_ranges.specs.RewritingTable.{PlainComparator, PlainRange, PlainSet, fits_by}
use Rattle.semver_ranges.specs.RewritingTable.{simple_fits, written_set}
use Rattle.semver_ranges.specs.Steps.RangeEvents.{Event, event_fits, one_simple, next_range}
use Rattle.semver_ranges.specs.Steps.Reading.{read}
use Rattle.semver_ranges.specs.RangeViews.{set_of}

-- the range of these terms in a mode, if `written` gives the comparators of each term
abbrev pub range_of_simples : (Simple → List PlainComparator) → Compat → List Simple → PlainRange
range_of_simples written mode ss =
    record { comparators = flat_map written ss; compat = mode }

-- the ranges of a list of events, if `written` gives the comparators of each term. The first range
-- already has the comparators `cs`
abbrev pub ranges_by : (Simple → List PlainComparator) → Compat → List PlainComparator
    → List Event → List PlainRange
ranges_by written mode cs [] = record { comparators = cs; compat = mode } ∷ []
ranges_by written mode cs (one_simple s ∷ es) = ranges_by written mode (cs ++ written s) es
ranges_by written mode cs (next_range ∷ es) =
    record { comparators = cs; compat = mode } ∷ ranges_by written mode [] es

-- all events fit
abbrev pub AllFit : Option (List Event) → (Simple → Bool) → Type 0
AllFit o fit = (es : List Event) × (o ≡ Some es) × IsTrue (list_all (event_fits fit) es)

-- the error is possible for these events before anything is allocated: with `NotARange` there are
-- none, and with `NumberTooLarge` one of them doesn't fit
abbrev pub IsInvalidBy : Option (List Event) → (Simple → Bool) → RangeError → Type 0
IsInvalidBy o fit NotARange = o ≡ None
IsInvalidBy o fit NumberTooLarge =
    (es : List Event) × (o ≡ Some es) × (list_all (event_fits fit) es ≡ false)
IsInvalidBy o fit OutOfMemory = ⊥

-- the error is possible for these events; with `OutOfMemory` all of them fit
abbrev pub IsRefusalBy : Option (List Event) → (Simple → Bool) → RangeError → Type 0
IsRefusalBy o fit OutOfMemory = AllFit o fit
IsRefusalBy o fit e = IsInvalidBy o fit e

-- the result is possible for these events: a set, if all of them fit and `written` gives its
-- comparators, or a possible error
abbrev pub IsAnswerBy : Option (List Event) → (Simple → Bool) → (Simple → List PlainComparator)
    → Compat → Result RangeSet RangeError → Type 0
IsAnswerBy o fit written mode (Ok set) =
    (es : List Event) × (o ≡ Some es) × IsTrue (list_all (event_fits fit) es)
    × (set_of set ≡ record { ranges = ranges_by written mode [] es; compat = mode })
IsAnswerBy o fit written mode (Err e) = IsRefusalBy o fit e

-- the error, and below, the result, is possible for a tree, with `made` as the set of a tree
abbrev pub IsRefusalOf : Option SetTree → (Simple → Bool) → RangeError → Type 0
IsRefusalOf o fit NotARange = o ≡ None
IsRefusalOf o fit NumberTooLarge =
    (tree : SetTree) × (o ≡ Some tree) × (fits_by fit tree ≡ false)
IsRefusalOf o fit OutOfMemory =
    (tree : SetTree) × (o ≡ Some tree) × IsTrue (fits_by fit tree)

abbrev pub IsAnswerOf : Option SetTree → (Simple → Bool) → (SetTree → PlainSet)
    → Result RangeSet RangeError → Type 0
IsAnswerOf o fit made (Ok set) = (tree : SetTree) × (o ≡ Some tree)
    × IsTrue (fits_by fit tree) × (set_of set ≡ made tree)
IsAnswerOf o fit made (Err e) = IsRefusalOf o fit e

-- the result is possible for a text in the crate's grammar, with `bound_pre` as the pre-release of
-- raised bounds
abbrev pub IsAnswer : List IdentifierValue → Text → Compat → Result RangeSet RangeError → Type 0
IsAnswer bound_pre t mode r =
    IsAnswerOf (read Crate t) (simple_fits mode) (written_set bound_pre mode) r

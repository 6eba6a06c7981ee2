-- The ranges that are printed, found from the events of a text, and those that are printed for each
-- tree of npm.
use Rattle.std.proofs.Common.{◌≡◌, true, List, [], ◌∷◌, map, refl, sym, ap, ◌∙◌}
use Rattle.std.specs.Prelude.{Err, IfOk, Ok, Result}
use Rattle.semver_texts.specs.Texts.{Text}
use Rattle.semver_ranges.specs.declared.range.Compat.{Compat}
use Rattle.semver_ranges.specs.declared.range.Compat.TheVariants as mode
use Rattle.semver_ranges.specs.declared.range_set.RangeError.{RangeError}
use Rattle.semver_ranges.specs.declared.range_set.RangeError.TheVariants.{NotARange, NumberTooLarge, OutOfMemory}
use Rattle.semver_ranges.specs.declared.range_set.RangeSet.{RangeSet}
use Rattle.semver_ranges.specs.DialectTable.{mode_of}
use Rattle.semver_ranges.specs.Sides.{term_fits}
use Rattle.semver_ranges.specs.RangeTree.{RangeTree, SetTree, Simple}
use Rattle.semver_ranges.specs.RangeViews.{set_of}
use Rattle.semver_ranges.specs.RewritingTable.{PlainComparator, range_by}
use Rattle.semver_ranges.specs.Steps.Answers.{IsAnswerBy, range_of_simples, ranges_by}
use Rattle.semver_ranges.specs.Steps.RangeEvents.{next_range, yielded}
use Rattle.semver_ranges.proofs.EventLists.{range_made}
use Rattle.semver_ranges.proofs.EventSums.{front_made}
use Rattle.semver_ranges.specs.declared.rewriting.Style.{Style}
use Rattle.semver_ranges.specs.declared.rewriting.Style.TheVariants.{Exact}
use Rattle.semver_ranges.specs.declared.dialect.Dialect.{Dialect}
use Rattle.semver_ranges.specs.declared.dialect.Dialect.TheVariants.{Npm}
use Rattle.tool_ranges.specs.Dialects.{RefusesAs, SpellsAs, rewritten_as}
use Rattle.tool_ranges.specs.Steps.TextEvents.{events_in, ranges_of, text_events}
use Rattle.tool_ranges.specs.Steps.Printed.{IsPrintedAs, printed_ranges}
use Rattle.semver_ranges.specs.TermComparators.{printed_term}
use Rattle.tool_ranges.proofs.CheckedEvents.{fitting, refused_by}
use Rattle.tool_ranges.proofs.MatchedEvents.{some_ranges}
use Rattle.tool_ranges.proofs.ReadTrees.{answered_as, out_of_memory_as, refused_as, sound_as}
use Rattle.tool_ranges.proofs.ReadingLaws.{one_tree}
use Rattle.tool_ranges.proofs.PrintableSets.{term_table}

-- ---- events
module _ (written : Simple → List PlainComparator) (mode : Compat) where
  listed : (first : List Simple) (others : List (List Simple))
      → ranges_by written mode [] (events_in (first ∷ others)) ≡ map (range_of_simples written mode) (first ∷ others)
  listed first [] = front_made written mode first [] []
  listed first (next ∷ others) = front_made written mode first [] (next_range ∷ events_in (next ∷ others))
      ∙ ap (λ l. range_of_simples written mode first ∷ l) (listed next others)

pub printed_events : (style : Style) (d : Dialect) (mode : Compat) (t : Text) (tree : SetTree) → SpellsAs d tree t
    → printed_ranges style d mode tree ≡ ranges_by (printed_term style d) mode [] (events_in (ranges_of d tree))
printed_events style d mode t tree h =
    let some = some_ranges d t tree h in
    ap (map (range_of_simples (printed_term style d) mode)) some.2
    ∙ sym (listed (printed_term style d) mode some.0 some.1)
    ∙ ap (λ rs. ranges_by (printed_term style d) mode [] (events_in rs)) (sym some.2)

-- ---- npm
npm_range : (r : RangeTree) → range_of_simples (printed_term Exact Npm) mode.Npm (yielded r)
    ≡ record { comparators = range_by (printed_term Exact Npm) r; compat = mode.Npm }
npm_range r = range_made (term_table Npm) mode.Npm r

pub npm_ranges : (tree : SetTree) → printed_ranges Exact Npm mode.Npm tree ≡ (rewritten_as Npm tree).ranges
npm_ranges [] = refl
npm_ranges (r ∷ others) = λ i. npm_range r i ∷ npm_ranges others i

-- ---- the set that is made of the events
module _ (style : Style) (d : Dialect) (t : Text) where
  abbrev IsMade : Result RangeSet RangeError → Type 0
  IsMade r = IsAnswerBy (text_events d t) (term_fits d) (printed_term style d) (mode_of d) r

  pub made_refuses : (r : Result RangeSet RangeError) → IsMade r → RefusesAs d t r
  made_refuses (Ok set) (es, e, fit, is) = let read = fitting d t es true e fit in answered_as d t set read.0 read.1 read.2
  made_refuses (Err OutOfMemory) (es, e, fit) = let read = fitting d t es true e fit in out_of_memory_as d t read.0 read.1 read.2
  made_refuses (Err NotARange) invalid = refused_as d t NotARange (refused_by d t NotARange invalid)
  made_refuses (Err NumberTooLarge) invalid = refused_as d t NumberTooLarge (refused_by d t NumberTooLarge invalid)

  pub made_prints : (r : Result RangeSet RangeError) → IsMade r → IfOk r (λ set. IsPrintedAs style d (mode_of d) t (set_of set))
  made_prints (Ok set) (es, e, fit, is) = λ other h.
      let read = fitting d t es true e fit in
      let spelled = sound_as d t read.0 read.1 in
      is ∙ ap (λ rs. record { ranges = rs; compat = mode_of d })
      (ap (ranges_by (printed_term style d) (mode_of d) []) read.3 ∙ sym (printed_events style d (mode_of d) t read.0 spelled)
      ∙ ap (printed_ranges style d (mode_of d)) (one_tree d read.0 other t spelled h))
  made_prints (Err e) invalid = tt

use Rattle.std.proofs.Common.{◌≡◌, ◌++◌, Some, Option, List, [], map, sym, ap, ◌∙◌, rules}
use Rattle.std.proofs.lemmas.Bool.{and_parts}
use Rattle.semver_ranges.specs.DialectTable.{grammar_of, mode_of}
use Rattle.semver_ranges.specs.RangeViews.{comparator_of, range_of}
use Rattle.semver_ranges.specs.TermComparators.{printed_term}
use Rattle.semver_ranges.specs.Steps.Answers.{ranges_by}
use Rattle.semver_ranges.specs.Steps.CursorViews.{Gives, HasLeft}
use Rattle.semver_ranges.specs.Steps.RangeEvents.{Event}
use Rattle.semver_ranges.proofs.EventSums.{range_ended, text_ended}
use Rattle.semver_ranges.proofs.FoundEvents.{NextSimple, next_bars, next_simple}
use Rattle.semver_ranges.proofs.rewriting.all_ranges.Goals as goal
use Rattle.semver_ranges.proofs.rewriting.all_ranges.Goals.{In-Simple, In-Some}

pub loop-event-init : goal.loop-event-init
loop-event-init c = λ es has fit.
    let d = c.args.dialect in (
      es,
      has,
      fit,
      λ i. map range_of (sym c.in_ok-ranges.ensures.items i)
          ++ ranges_by (printed_term c.args.style d) (mode_of d) (map comparator_of (sym c.in_ok-comparator_set.ensures.items i)) es,
    )

-- what comes next
gives : (c : In-Some) (left : List Event) → HasLeft (grammar_of c.args.dialect) c.loop-event.events (Some left)
    → Gives (grammar_of c.args.dialect) (Some left) (Some c.in-Some.event) c.next_in.new.self
gives c = search rules

first : (c : In-Simple) (left : List Event) → HasLeft (grammar_of c.args.dialect) c.loop-event.events (Some left)
    → NextSimple (grammar_of c.args.dialect) left c.in-Simple.simple c.next_in.new.self
first c left has =
    let given : Gives (grammar_of c.args.dialect) (Some left) (Some c.in-Some.event) c.next_in.new.self = search rules in
    next_simple (grammar_of c.args.dialect) left c.in-Simple.simple c.next_in.new.self (rw (c.in-Ok.is, c.in-Simple.is) at given)

pub push-requires : goal.push-requires
push-requires c =
    let so_far = c.loop-event.invariant c.requires.0 c.requires.1 c.requires.2 in
    let here = first (goal.at.push-requires c).In-Simple so_far.0 so_far.1 in
    (here.s, here.is)

pub loop-event-preserved-in-Continue-branch-3 : goal.loop-event-preserved-in-Continue-branch-3
loop-event-preserved-in-Continue-branch-3 c = λ es has fit.
    let so_far = c.loop-event.invariant es has fit in
    let d = c.args.dialect in
    let written = printed_term c.args.style d in
    let before = map range_of c.loop-event.ranges.items in
    let here = first (goal.at.loop-event-preserved-in-Continue-branch-3 c).In-Simple so_far.0 so_far.1 in
    let fits = and_parts _ _ (rw here.whole at so_far.2) in (
      here.after,
      here.has,
      fits.1,
      so_far.3 ∙ ap (λ es. before ++ ranges_by written (mode_of d) (map comparator_of c.loop-event.comparator_set.items) es) here.whole
          ∙ ap (λ cs. before ++ ranges_by written (mode_of d) cs here.after) (sym (c.in_ok-push-in-Simple.ensures here.s here.is fits.0)),
    )

pub loop-event-preserved : goal.loop-event-preserved
loop-event-preserved c = λ es has fit.
    let so_far = c.loop-event.invariant es has fit in
    let d = c.args.dialect in
    let here = next_bars (grammar_of d) so_far.0 c.next_in.new.self
    (rw (c.in-Ok.is, c.in-NextRange.is) at (gives (goal.at.loop-event-preserved c).In-Some so_far.0 so_far.1)) in (
      here.0,
      here.1,
      rw here.2 at so_far.2,
      so_far.3
          ∙ range_ended (printed_term c.args.style d) (mode_of d) c.loop-event.ranges.items c.push-in-NextRange.new.self.items
          c.loop-event.comparator_set.items _
          c.in_ok-push-in-NextRange.ensures.items
          (ap (λ mode. record { comparators = map comparator_of c.loop-event.comparator_set.items; compat = mode }) c.mode-compat.ensures)
          c.in_ok-comparator_set-in-NextRange.comparator_set.items so_far.0 here.0
          c.in_ok-comparator_set-in-NextRange.ensures.items here.2,
    )

pub returns : goal.returns
returns c = λ es has fit.
    let so_far = c.loop-event.invariant es has fit in
    let d = c.args.dialect in
    let end : (left : List Event) → HasLeft (grammar_of d) c.loop-event.events (Some left) → Path (Option (List Event)) (Some left) (Some []) = search rules in
    let none : so_far.0 ≡ [] = (let same = end so_far.0 so_far.1 in cc) in
    text_ended (printed_term c.args.style d) (mode_of d) c.loop-event.ranges.items c.push-2.new.self.items c.loop-event.comparator_set.items _
    c.in_ok-push.ensures.items
    (ap (λ mode. record { comparators = map comparator_of c.loop-event.comparator_set.items; compat = mode }) c.mode-compat.ensures)
    so_far.0 none
    ∙ sym so_far.3

use Rattle.std.proofs.Common.{List, Some, subst}
use Rattle.semver_texts.specs.declared.grammar.Grammar.{Grammar}
use Rattle.semver_ranges.specs.Steps.RangeEvents.{Event}
use Rattle.semver_ranges.specs.DialectTable.{grammar_of}
use Rattle.semver_ranges.specs.Steps.Checked.{GivesEvent, HasEvents}
use Rattle.tool_ranges.specs.Steps.WidenedEvents.{AreWidenedEvents}
use Rattle.tool_ranges.proofs.WidenedEvents.{first_event, not_widened, one_more}
use Rattle.tool_ranges.proofs.widening.are_widened.Goals as goal

pub returns-then-not-is_widened_event : goal.returns-then-not-is_widened_event
returns-then-not-is_widened_event c = λ es fs old new fit fits.
    let d = c.args.dialect in
    let so_far = c.loop-event.invariant es fs old new fit fits in
    let gives = subst (λ (g : Grammar). (left : List Event) → HasEvents g c.loop-event.terms left
    → GivesEvent g left (Some c.in-Some.event) c.next.new.self) c.grammar-grammar.ensures.grammar c.in-Some.ensures.gives in
    let gives_other = subst (λ (g : Grammar). (left : List Event) → HasEvents g c.loop-event.others left
    → GivesEvent g left (Some c.in-Some-next.other) c.next-in-Some.new.self)
    c.grammar-grammar.ensures.grammar c.in-Some-next.ensures.gives in
    let here = first_event (grammar_of d) d so_far.0 c.next.new.self so_far.4 c.in-Some.event (gives so_far.0 so_far.2) in
    let other = first_event (grammar_of d) d so_far.1 c.next-in-Some.new.self so_far.5 c.in-Some-next.other
    (gives_other so_far.1 so_far.3) in
    not_widened (AreWidenedEvents es fs) so_far.0 so_far.1 so_far.6 here.x other.x here.others other.others here.whole other.whole
    c.is_widened_event.result (c.is_widened_event.ensures d here.x other.x here.is other.is here.fits other.fits)
    c.if-not-is_widened_event.true

pub loop-event-preserved : goal.loop-event-preserved
loop-event-preserved c = λ es fs old new fit fits.
    let d = c.args.dialect in
    let so_far = c.loop-event.invariant es fs old new fit fits in
    let gives = subst (λ (g : Grammar). (left : List Event) → HasEvents g c.loop-event.terms left
    → GivesEvent g left (Some c.in-Some.event) c.next.new.self) c.grammar-grammar.ensures.grammar c.in-Some.ensures.gives in
    let gives_other = subst (λ (g : Grammar). (left : List Event) → HasEvents g c.loop-event.others left
    → GivesEvent g left (Some c.in-Some-next.other) c.next-in-Some.new.self)
    c.grammar-grammar.ensures.grammar c.in-Some-next.ensures.gives in
    let here = first_event (grammar_of d) d so_far.0 c.next.new.self so_far.4 c.in-Some.event (gives so_far.0 so_far.2) in
    let other = first_event (grammar_of d) d so_far.1 c.next-in-Some.new.self so_far.5 c.in-Some-next.other
    (gives_other so_far.1 so_far.3) in
    let is = (c.is_widened_event.ensures d here.x other.x here.is other.is here.fits other.fits).0 c.if-not-is_widened_event.false in (
      here.others,
      other.others,
      here.has,
      other.has,
      here.others_fit,
      other.others_fit,
      one_more (AreWidenedEvents es fs) so_far.0 so_far.1 so_far.6 here.x other.x here.others other.others here.whole other.whole is,
    )

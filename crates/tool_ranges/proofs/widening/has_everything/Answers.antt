use Rattle.std.proofs.Common.{◌∙◌, ◌&&◌, ◌||◌, List, Some, ap, subst, sym, true}
use Rattle.semver_texts.specs.declared.grammar.Grammar.{Grammar}
use Rattle.semver_ranges.specs.Steps.RangeEvents.{Event}
use Rattle.semver_ranges.specs.DialectTable.{grammar_of}
use Rattle.semver_ranges.specs.Steps.Checked.{GivesEvent, HasEvents}
use Rattle.tool_ranges.specs.Steps.WidenedEvents.{has_everything}
use Rattle.semver_ranges.proofs.LeftEvents.{first_fits, next_first}
use Rattle.tool_ranges.proofs.MatchedTerms.{everything}
use Rattle.tool_ranges.proofs.WidenedEvents.{or_assoc}
use Rattle.tool_ranges.proofs.widening.has_everything.Goals as goal

pub loop-event-preserved-in-Simple : goal.loop-event-preserved-in-Simple
loop-event-preserved-in-Simple c = λ es begun fit.
    let d = c.args.dialect in
    let so_far = c.loop-event.invariant es begun fit in
    let gives = subst (λ (g : Grammar). (left : List Event) → HasEvents g c.loop-event.terms left
    → GivesEvent g left (Some c.in-Some.event) c.next.new.self) c.grammar-grammar.ensures.grammar c.in-Some.ensures.gives in
    let here = first_fits (grammar_of d) d so_far.0 c.next.new.self so_far.2 c.in-Simple.simple
    (rw c.in-Simple.is at (gives so_far.0 so_far.1)) in (
      here.others,
      here.has,
      here.others_fit,
      so_far.3 ∙ ap (λ es. c.loop-event.matched_all || has_everything c.loop-event.matches_all es) here.whole
          ∙ ap (λ b. c.loop-event.matched_all || has_everything (c.loop-event.matches_all && b) here.others)
          (sym (c.matches_everything-matches_all.ensures ∙ everything d here.s c.in-Simple.simple here.is here.fits)),
    )

pub loop-event-preserved : goal.loop-event-preserved
loop-event-preserved c = λ es begun fit.
    let d = c.args.dialect in
    let so_far = c.loop-event.invariant es begun fit in
    let gives = subst (λ (g : Grammar). (left : List Event) → HasEvents g c.loop-event.terms left
    → GivesEvent g left (Some c.in-Some.event) c.next.new.self) c.grammar-grammar.ensures.grammar c.in-Some.ensures.gives in
    let next = next_first (grammar_of d) d so_far.0 c.next.new.self so_far.2 (rw c.in-NextRange.is at (gives so_far.0 so_far.1)) in (
      next.0,
      next.1,
      next.2,
      so_far.3 ∙ ap (λ es. c.loop-event.matched_all || has_everything c.loop-event.matches_all es) next.3
          ∙ or_assoc c.loop-event.matched_all c.loop-event.matches_all (has_everything true next.0),
    )

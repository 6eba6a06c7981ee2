use Rattle.std.proofs.Common.{◌≡◌, Some, Option, List, [], Bool, true, false, not, ◌&&◌, refl, sym, ap, ◌∙◌, rules}
use Rattle.semver_texts.specs.Texts.{is_empty}
use Rattle.semver_texts.specs.Versions.{PlainVersion}
use Rattle.semver_ranges.specs.Steps.RangeEvents.{Event}
use Rattle.semver_ranges.specs.DialectTable.{grammar_of}
use Rattle.semver_ranges.specs.Steps.CursorViews.{Gives, HasLeft}
use Rattle.tool_ranges.specs.Steps.Matching.{counts, ended, plain_of}
use Rattle.semver_ranges.proofs.FoundEvents.{FirstSimple, first_simple}
use Rattle.tool_ranges.proofs.MatchedEvents.{large, says, term_more, told}
use Rattle.semver_ranges.proofs.FitCells.{read_fits}
use Rattle.tool_ranges.proofs.matching.matches.Goals as goal
use Rattle.tool_ranges.proofs.matching.matches.Goals.{In-Simple}

not_counted : (all : Bool) (v : PlainVersion) → not (counts all v) ≡ (not all && not (is_empty v.pre))
not_counted true v = refl
not_counted false v = refl

-- the next event is a term
first : (c : In-Simple) → FirstSimple (grammar_of c.args.dialect) c.loop-event.invariant.0 c.in-Simple.simple c.next_in.new.self
first c =
    let so_far = c.loop-event.invariant in
    let gives : (o : Option (List Event)) → HasLeft (grammar_of c.args.dialect) c.loop-event.events o
    → Gives (grammar_of c.args.dialect) o (Some c.in-Some.event) c.next_in.new.self = search rules in
    first_simple (grammar_of c.args.dialect) so_far.0 c.in-Simple.simple c.next_in.new.self
    (rw (c.in_ok-simple.was, c.in-Simple.is) at (gives so_far.0 so_far.1))

pub with_term-progress-requires : goal.with_term-progress-requires
with_term-progress-requires c = let here = first (goal.at.with_term-progress-requires c).In-Simple in (here.s, here.is)

pub loop-event-preserved-in-Simple : goal.loop-event-preserved-in-Simple
loop-event-preserved-in-Simple c =
    let so_far = c.loop-event.invariant in
    let d = c.args.dialect in
    let all = c.args.takes_all in
    let v = plain_of c.args.version.now in
    let simple = c.in-Simple.simple in
    let here = first (goal.at.loop-event-preserved-in-Simple c).In-Simple in (
      here.left,
      here.has,
      term_more d all v _ c.loop-event.fit c.fits-fit.result c.loop-event.progress c.with_term-progress.result here.s so_far.0 here.left
          so_far.2 here.whole (c.fits-fit.ensures ∙ read_fits here.s simple here.is d)
          (λ fit. c.with_term-progress.ensures here.s all here.is fit (ap not c.counts-counts.ensures ∙ not_counted all v)),
    )

pub returns-then-not-fit : goal.returns-then-not-fit
returns-then-not-fit c =
    let so_far = c.loop-event.invariant in
    let d = c.args.dialect in
    let v = plain_of c.args.version.now in
    let end : so_far.0 ≡ Some [] = search rules in
    large d c.args.takes_all v c.args.range.now
    (so_far.2 ∙ ap (told d c.args.takes_all v c.loop-event.fit c.loop-event.progress) end ∙ rw c.if-not-fit.true refl)

pub returns : goal.returns
returns c =
    let so_far = c.loop-event.invariant in
    let d = c.args.dialect in
    let v = plain_of c.args.version.now in
    let end : so_far.0 ≡ Some [] = search rules in
    says d c.args.takes_all v c.args.range.now c.ended.result
    (so_far.2 ∙ ap (told d c.args.takes_all v c.loop-event.fit c.loop-event.progress) end
    ∙ rw c.if-not-fit.false (ap (λ p. Some (Some p)) (sym (c.ended.ensures ∙ ap (λ b. ended b c.loop-event.progress) c.counts-counts.ensures))))

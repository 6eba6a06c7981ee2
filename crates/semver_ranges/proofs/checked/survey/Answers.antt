use Rattle.std.proofs.Common.{◌≡◌, Some, Option, List, [], Err, refl, ap, ◌∙◌, rules}
use Rattle.semver_ranges.specs.Steps.RangeEvents.{Event}
use Rattle.semver_ranges.specs.DialectTable.{grammar_of}
use Rattle.semver_ranges.specs.Steps.CursorViews.{Gives, HasLeft}
use Rattle.semver_ranges.specs.Sides.{term_fits}
use Rattle.semver_ranges.proofs.EventSums.{fit_bars, fit_end, fit_more, fit_none, fitted}
use Rattle.semver_ranges.proofs.FitCells.{read_fits}
use Rattle.semver_ranges.proofs.FoundEvents.{first_bars, first_simple}
use Rattle.semver_ranges.proofs.checked.survey.Goals as goal
use Rattle.semver_ranges.proofs.checked.survey.Goals.{In-Some, In_default}

pub loop-event-init : goal.loop-event-init
loop-event-init c = λ o has. (o, has, refl)

-- what comes next
gives : (c : In-Some) (o : Option (List Event)) → HasLeft (grammar_of c.args.dialect) c.loop-event.rest o
    → Gives (grammar_of c.args.dialect) o (Some c.in-Some.event) c.next_in.new.self
gives c = search rules

pub loop-event-preserved-in-Simple : goal.loop-event-preserved-in-Simple
loop-event-preserved-in-Simple c = λ o has.
    let so_far = c.loop-event.invariant o has in
    let d = c.args.dialect in
    let here = first_simple (grammar_of d) so_far.0 c.in-Simple.simple c.next_in.new.self
    (rw (c.in_ok-simple.was, c.in-Simple.is) at (gives (goal.at.loop-event-preserved-in-Simple c).In-Some so_far.0 so_far.1)) in (
      here.left,
      here.has,
      fit_more (term_fits d) (fitted (term_fits d) c.args.fit o) c.loop-event.fit c.fits-fit.result so_far.0 here.left here.s so_far.2 here.whole
          (c.fits-fit.ensures ∙ read_fits here.s c.in-Simple.simple here.is d),
    )

pub loop-event-preserved : goal.loop-event-preserved
loop-event-preserved c = λ o has.
    let so_far = c.loop-event.invariant o has in
    let d = c.args.dialect in
    let here = first_bars (grammar_of d) so_far.0 c.next_in.new.self
    (rw (c.in_ok-simple.was, c.in-NextRange.is) at (gives (goal.at.loop-event-preserved c).In-Some so_far.0 so_far.1)) in
    (here.0, here.1, so_far.2 ∙ ap (fitted (term_fits d) c.loop-event.fit) here.2 ∙ fit_bars (term_fits d) c.loop-event.fit here.0)

pub returns-in_err-simple : goal.returns-in_err-simple
returns-in_err-simple c = λ o has.
    let so_far = c.loop-event.invariant o has in
    let error = c.in_err-simple.field-0.0 in
    let wrong = rw c.in_err-simple.was at (gives (goal.at.returns-in_err-simple c).In-Some so_far.0 so_far.1) in
    let is : c.from_residual.result ≡ Err error = search rules in
    rw (is, wrong.1) (fit_none (term_fits c.args.dialect) c.args.fit o
    (so_far.2 ∙ ap (fitted (term_fits c.args.dialect) c.loop-event.fit) wrong.0))

-- nothing is left
ends : (c : In_default) (o : Option (List Event)) → HasLeft (grammar_of c.args.dialect) c.loop-event.rest o
    → (o ≡ Some []) × HasLeft (grammar_of c.args.dialect) c.next_in.new.self o
ends c = search rules

pub returns-then-fit : goal.returns-then-fit
returns-then-fit c = λ o has.
    let so_far = c.loop-event.invariant o has in
    let d = c.args.dialect in
    let end = ends (goal.at.returns-then-fit c).In_default so_far.0 so_far.1 in
    let known = fit_end (term_fits d) c.args.fit c.loop-event.fit o (so_far.2 ∙ ap (fitted (term_fits d) c.loop-event.fit) end.0) in
    (known.0, known.1, known.2 ∙ c.if-fit.true)

pub returns-else-fit : goal.returns-else-fit
returns-else-fit c = λ o has.
    let so_far = c.loop-event.invariant o has in
    let d = c.args.dialect in
    let end = ends (goal.at.returns-else-fit c).In_default so_far.0 so_far.1 in
    let known = fit_end (term_fits d) c.args.fit c.loop-event.fit o (so_far.2 ∙ ap (fitted (term_fits d) c.loop-event.fit) end.0) in
    (known.0, known.1, known.2 ∙ c.if-fit.false)

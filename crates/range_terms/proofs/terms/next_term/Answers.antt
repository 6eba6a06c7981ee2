use Rattle.std.proofs.Common.{None, ap, arith, length, refl, ◌∙◌}
use Rattle.semver_ranges.specs.declared.cursor.Event.TheVariants.{Term}
use Rattle.semver_ranges.specs.Steps.Items.{IsTaken}
use Rattle.semver_ranges.proofs.ItemSteps.{left_next}
use Rattle.range_terms.specs.WrittenTerms.{terms_of}
use Rattle.tool_ranges.proofs.ItemsFound.{term_first}
use Rattle.range_terms.proofs.terms.next_term.Goals as goal

pub term_of-requires : goal.term_of-requires
term_of-requires c =
    let before = c.loop-event.cursor in
    let given : IsTaken c.args.grammar before.begins_range before.rest.now (Term c.in-Term.read) c.next_in.new.self =
    rw (c.in-Ok.is, c.in-Term.is) at c.in-Some.ensures in
    let so_far = c.loop-event.invariant.1 in
    let first = term_first c.args.grammar (length before.rest.now) given.x c.in-Term.read given.is in
    (c.args.grammar, first.0, first.2, omega (arith, first.3, so_far))

pub returns-in_default-event-clause-value : goal.returns-in_default-event-clause-value
returns-in_default-event-clause-value c =
    let before = c.loop-event.cursor in
    let gone = rw c.in_default-event.is at c.in-Some.ensures in (
      c.loop-event.invariant.0
          ∙ ap (terms_of c.args.len c.loop-event.range) (left_next c.args.grammar before.begins_range before.rest.now None gone.0.found),
      rw (gone.2.0, gone.2.1) refl,
    )

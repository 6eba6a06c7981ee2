use Rattle.tool_ranges.proofs.WidenedEvents.{terms_of_events}
use Rattle.tool_ranges.proofs.widening.is_widened_event.Goals as goal

pub returns-in-Simple-Simple : goal.returns-in-Simple-Simple
returns-in-Simple-Simple c = λ d e f is isnt fit fits.
    terms_of_events d e f c.in-Simple-Simple.term c.in-Simple-Simple.other c.is_widened_term.result
    (rw c.in-Simple-Simple.is-0 at is) (rw c.in-Simple-Simple.is-1 at isnt) fit fits c.is_widened_term.ensures

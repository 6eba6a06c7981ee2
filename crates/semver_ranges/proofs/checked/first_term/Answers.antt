use Rattle.std.proofs.Common.{◌≡◌, Some, None, [], rules}
use Rattle.semver_ranges.specs.Steps.RangeEvents.{events}
use Rattle.semver_ranges.proofs.CheckedEvents.{no_end, no_separator}
use Rattle.semver_ranges.proofs.FoundEvents.{first_bars, first_simple}
use Rattle.semver_ranges.proofs.checked.first_term.Goals as goal

pub returns-in_err-event : goal.returns-in_err-event
returns-in_err-event c = λ t begun.
    let g = c.args.grammar in
    let end : events g t ≡ Some [] = search rules in
    let is : c.from_residual.result ≡ None = search rules in
    rw is (no_end g t end)

pub returns-in-Simple : goal.returns-in-Simple
returns-in-Simple c = λ t begun.
    let g = c.args.grammar in
    let here = first_simple g (events g t) c.in-Simple.first c.next_in.new.self
    (rw (c.in-Ok.is, c.in-Simple.is) at (c.in_ok-event.ensures.gives (events g t) begun.0)) in
    (here.s, here.left, here.is, here.has, here.whole)

pub returns-in-NextRange : goal.returns-in-NextRange
returns-in-NextRange c = λ t begun.
    let g = c.args.grammar in
    let bars = first_bars g (events g t) c.next_in.new.self
    (rw (c.in-Ok.is, c.in-NextRange.is) at (c.in_ok-event.ensures.gives (events g t) begun.0)) in
    no_separator g t bars.0 bars.2

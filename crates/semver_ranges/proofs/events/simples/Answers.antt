use Rattle.semver_ranges.specs.Steps.FoundItems.{simple_of}
use Rattle.semver_ranges.specs.CargoGrammar.{read_in}
use Rattle.semver_ranges.proofs.FoundEvents.{found_upper, no_upper}
use Rattle.semver_ranges.proofs.events.simples.Goals as goal

pub returns-in-Some : goal.returns-in-Some
returns-in-Some c = λ d x is.
    let found = found_upper d x.from x.upper c.in-Some.upper (rw c.in-Some.is at is.upper) in
    rw found.1 (c.hyphen_sides.ensures (read_in c.args.grammar (simple_of x)) found.0.partial
    (c.simple-simple.ensures d x is) (c.of.ensures found.0.partial found.2.written))

pub returns-in-None : goal.returns-in-None
returns-in-None c = λ d x is. rw (no_upper d x.from x.upper (rw c.in-None.is at is.upper)) (c.simple-simple.ensures d x is)

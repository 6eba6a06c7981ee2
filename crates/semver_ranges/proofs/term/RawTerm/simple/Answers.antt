use Rattle.semver_ranges.specs.Steps.FoundItems.{simple_of}
use Rattle.semver_ranges.proofs.term.RawTerm.simple.Goals as goal

pub returns : goal.returns
returns c = λ d x is. c.of.ensures (simple_of x) is.operator is.version.written

use Rattle.std.proofs.Common.{arith}
use Rattle.semver_ranges.proofs.FoundEvents.{found_upper}
use Rattle.range_terms.proofs.terms.term_of.Goals as goal

pub version_of-requires : goal.version_of-requires
version_of-requires c =
    let (d, x, is, within) = c.requires in
    let upper = found_upper d x.from x.upper c.in-Some.upper (rw c.in-Some.is at is.upper) in
    (d, upper.0, upper.2, omega (arith, upper.3, within))

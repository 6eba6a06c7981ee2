use Rattle.std.proofs.Common.{Some, subst}
use Rattle.version_sets.specs.Steps.Within.{AreFirstNumbers}
use Rattle.version_sets.proofs.WithinLaws.{first_from}
use Rattle.version_sets.proofs.within.First.from_boundary.Goals as goal

pub returns-clause-first : goal.returns-clause-first
returns-clause-first g c =
    let r = c.in_ok-numbers.numbers in
    first_from c.args.most (g.T.Boundary.place c.args.boundary.now) r
    (subst (λ w. AreFirstNumbers c.args.most w (Some r)) c.numbers.ensures c.in_ok-numbers.ensures) g.T.Boundary.are_releases c.requires

use Rattle.std.proofs.Common.{rules}
use Rattle.std.proofs.lemmas.Iterator.Consumers.{YieldsList-from_first}
use Rattle.std.proofs.lemmas.Iterator.Search.{any_from_yields_List}
use Rattle.version_sets.specs.Steps.SweepViews.{piece_value, pieces_left}
use Rattle.version_sets.specs.Combinations.{keeps}
use Rattle.version_sets.proofs.set_operations.Combination.keeps_some.Goals as goal

pub returns : goal.returns
returns g c =
    let place = g.T.Boundary.place in
    any_from_yields_List (λ p. keeps c.args.self p.in_first p.in_second) c.any.new.self _ _ c.any.ensures.ran
    (YieldsList-from_first (piece_value place) (pieces_left place) {s = c.over.result} _ c.over.ensures) (λ x r q k. search rules)

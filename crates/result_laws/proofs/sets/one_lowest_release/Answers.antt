use Rattle.result_laws.proofs.LowestVersions.{one_lowest_release}
use Rattle.result_laws.proofs.sets.one_lowest_release.Goals as goal

pub returns : goal.returns
returns c =
    let law = c.precedence_is_total.ensures in
    let r = c.lowest_release.ensures in
    let s = c.lowest_release-2.ensures in
    record { one = one_lowest_release law.total law.same _ _ _ r.lowest r.none s.lowest s.none }

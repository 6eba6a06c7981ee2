use Rattle.version_sets.specs.VersionSets.{IsWithin}
use Rattle.result_laws.proofs.LowestVersions.{one_call}
use Rattle.result_laws.proofs.sets.one_lowest_within.Goals as goal

pub returns : goal.returns
returns c =
    let law = c.precedence_is_total.ensures in
    let r = c.lowest_within.ensures in
    let s = c.lowest_within-2.ensures in
    record {
      one = one_call law.total law.same (IsWithin c.args.most) c.args.set.now _ _ r.lowest r.no_build r.none s.lowest s.no_build s.none;
    }

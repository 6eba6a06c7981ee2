use Rattle.version_sets.specs.VersionSets.{IsWithin}
use Rattle.semver_ranges.specs.DialectTable.{limit}
use Rattle.result_laws.proofs.LowestVersions.{one_owned_call}
use Rattle.result_laws.proofs.version_ranges.one_lowest_owned.Goals as goal

pub returns : goal.returns
returns c =
    let law = c.precedence_is_total.ensures in
    let r = c.lowest_owned.ensures in
    let s = c.lowest_owned-2.ensures in
    let range = c.args.range.now in
    record {
      one = one_owned_call law.total law.same (IsWithin (limit range.meaning.dialect)) range.versions _ _ r.lowest r.none s.lowest s.none;
    }

use Rattle.release_filter.specs.KeptReleases.{kept_releases}
use Rattle.result_laws.proofs.OneResult.{one_rewritten}
use Rattle.result_laws.proofs.filters.one_filter_text.Goals as goal

pub returns : goal.returns
returns c =
    let r = c.filter_text.ensures in
    let s = c.filter_text-2.ensures in
    record {
      one = one_rewritten _ (λ tree. kept_releases c.args.compat tree c.args.versions.now) _ _ r.refusals s.refusals r.kept s.kept;
    }

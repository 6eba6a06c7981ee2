use Rattle.release_filter.proofs.KeptVersions.{cut_at, checked_more}
use Rattle.release_filter.proofs.contained.contained.Goals as goal

pub loop-rest-preserved : goal.loop-rest-preserved
loop-rest-preserved c =
    checked_more _ _ _ _ _ _ _ _ (cut_at _ _ _ _ c.split_at.ensures.front c.split_at.ensures.back) c.in_ok-keep.ensures
    c.loop-rest.invariant

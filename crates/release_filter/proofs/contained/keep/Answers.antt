use Rattle.std.proofs.Common.{ap, sym, ◌∙◌, refl, map}
use Rattle.std.proofs.lemmas.Option.{slice_get_read}
use Rattle.std.specs.Prelude.{slice_get}
use Rattle.release_filter.specs.Steps.Members.{is_member}
use Rattle.release_filter.proofs.KeptVersions.{all_in_front, in_bounds, in_front_more, checked_at, keeps_next}
use Rattle.release_filter.proofs.contained.keep.Goals as goal

pub loop-at-preserved : goal.loop-at-preserved
loop-at-preserved c =
    in_front_more (is_member c.args.set.now) c.args.versions.now _ _ _ _ _ c.loop-at-test.true
    (checked_at c.args.set.now c.args.versions.now _ c.loop-at.at _ c.contains_each.ensures.each c.contains_each.ensures.fit
    c.loop-at-test.true) c.from-count.ensures c.loop-at.invariant

pub bounds-versions-from : goal.bounds-versions-from
bounds-versions-from c =
    in_bounds (is_member c.args.set.now) c.args.versions.now _ _ _ _ c.loop-place-test.true
    (all_in_front (is_member c.args.set.now) c.args.versions.now _ _ _ c.loop-at.auto.at-end c.loop-at-test.false c.loop-at.invariant)
    c.from.ensures

pub loop-place-preserved : goal.loop-place-preserved
loop-place-preserved c =
    let xs = c.args.versions.now in
    let test = is_member c.args.set.now in
    let same = all_in_front test xs _ _ _ c.loop-at.auto.at-end c.loop-at-test.false c.loop-at.invariant in
    ap (map (λ b. b.now)) c.in_ok-push.ensures.items
    ∙ keeps_next (λ b. b.now) xs _ _ c.args.kept.now.items c.loop-place.kept.items c.loop-place.place-index 0 _ c.loop-place-test.true same
    (ap (slice_get xs) (sym c.from.ensures)
    ∙ slice_get_read xs _ c.from.result c.index-versions-from.result refl (in_bounds test xs _ _ _ _ c.loop-place-test.true same
    c.from.ensures)
    c.index-versions-from.is) c.loop-place.invariant

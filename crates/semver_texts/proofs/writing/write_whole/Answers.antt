use Rattle.std.proofs.Common.{◌++◌, take}
use Rattle.std.proofs.KnownBytes.{Appends-trans}
use Rattle.semver_texts.proofs.Writes.{written_more}
use Rattle.semver_texts.proofs.writing.write_whole.Goals as goal

pub loop-rest-preserved : goal.loop-rest-preserved
loop-rest-preserved g c =
    let so_far = c.loop-rest.invariant in
    let rest = c.loop-rest.rest.now in
    let count = c.in_ok-count.count in (
      so_far.0 ++ take count rest,
      written_more so_far.0 rest c.args.bytes.now count so_far.1,
      Appends-trans _ _ _ _ _ so_far.2 c.in_ok-count.ensures.bytes,
    )

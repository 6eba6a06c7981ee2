use Rattle.result_laws.proofs.VersionResults.{one_split}
use Rattle.result_laws.proofs.texts.one_split_at_dot.Goals as goal

pub returns : goal.returns
returns c =
    let same = one_split c.args.bytes.now _ _ _ _ c.split_at_dot.ensures c.split_at_dot-2.ensures in
    record { part = same.0; rest = same.1 }

use Rattle.std.proofs.Common.{refl}
use Rattle.std.proofs.Output.{has_written_styled_append, has_written_styled_of_eq}
use Rattle.invalid_strings.proofs.Writes.{repeat-more}
use Rattle.invalid_strings.proofs.escaped.write_times.Goals as goal

pub loop-preserved : goal.loop-preserved
loop-preserved g c = λ flush.
    let so_far = c.loop.invariant flush in
    has_written_styled_of_eq _ _ _ _ _ (repeat-more c.loop.counter c.args.mark.now)
    (has_written_styled_append _ _ _ _ _ _ so_far (c.in_ok-write_str.ensures.styled so_far.flush refl))

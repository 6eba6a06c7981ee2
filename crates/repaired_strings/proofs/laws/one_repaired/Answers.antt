use Rattle.repaired_strings.proofs.OneRepair.{never_beyond, one_repaired}
use Rattle.repaired_strings.proofs.laws.one_repaired.Goals as goal

pub returns-clause-same : goal.returns-clause-same
returns-clause-same c = λ e d.
    one_repaired e d (c.one_error.ensures.same_offset e d) (c.one_error.ensures.same_reason e d) (c.one_error.ensures.invalid e d)

pub returns-clause-none : goal.returns-clause-none
returns-clause-none c = λ e d.
    never_beyond e d (c.one_error.ensures.same_offset e d) (c.one_error.ensures.same_reason e d) (c.one_error.ensures.invalid e d)

use Rattle.repaired_strings.proofs.errors.version_error.Goals as goal

pub returns-clause-valid : goal.returns-clause-valid
returns-clause-valid c =
    let told = rw c.in-Some.is at c.in_ok-refusal.ensures.version in
    rw (c.as_bytes.ensures.value, c.grammar.ensures.grammar) at told

pub returns-clause-error : goal.returns-clause-error
returns-clause-error c =
    let offset = rw c.in-Some.is at c.in_ok-refusal.ensures.offset in
    let reason = rw c.in-Some.is at c.in_ok-refusal.ensures.reason in (
      returns-clause-valid c,
      rw (c.as_bytes.ensures.value, c.grammar.ensures.grammar) at offset,
      rw (c.as_bytes.ensures.value, c.grammar.ensures.grammar) at reason,
    )

use Rattle.std.proofs.Common.{◌<◌, sym, ◌∙◌}
use Rattle.repaired_strings.specs.Spans.{IsRunAround, is_of_same_kind}
use Rattle.repaired_strings.proofs.Runs.{begins, ends, some}
use Rattle.repaired_strings.proofs.spans.span_at.Goals as goal

run : (c : goal.After-run_around) → IsRunAround (is_of_same_kind c.in-Some.byte) c.args.text.now c.args.offset c.run_around.result
run c = rw c.as_bytes-bytes.ensures.value at c.run_around.ensures

nonempty : (c : goal.After-run_around) → c.run_around.result.start < c.run_around.result.end
nonempty c =
    let found = sym c.kind_at.ensures ∙ c.in-Some.is in
    some c.args.text.now c.args.offset c.run_around.result c.args.reason c.in-Some.byte
    (rw c.as_bytes-bytes.ensures.value at found) (run c)

pub returns-in-Some-clause-some : goal.returns-in-Some-clause-some
returns-in-Some-clause-some c = λ within. nonempty c

pub returns-in-Some-clause-begins : goal.returns-in-Some-clause-begins
returns-in-Some-clause-begins c =
    begins c.args.text.now c.args.offset c.in-Some.byte c.run_around.result (run c) c.utf8.text (nonempty c)

pub returns-in-Some-clause-ends : goal.returns-in-Some-clause-ends
returns-in-Some-clause-ends c =
    ends c.args.text.now c.args.offset c.in-Some.byte c.run_around.result (run c) c.utf8.text (nonempty c)

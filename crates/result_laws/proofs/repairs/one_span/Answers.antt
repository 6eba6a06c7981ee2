use Rattle.invalid_strings.specs.declared.reasons.Reason.{Reason}
use Rattle.repaired_strings.specs.Spans.{kind_at}
use Rattle.result_laws.proofs.repairs.one_span.Goals as goal

pub returns : goal.returns
returns c =
    record {
      one = c.one_span.ensures c.args.text.now c.args.offset (kind_at c.args.text.now c.args.offset c.args.reason)
          _ _ c.span_at.ensures.span c.span_at-2.ensures.span;
    }

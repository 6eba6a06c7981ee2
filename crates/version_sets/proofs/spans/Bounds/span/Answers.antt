use Rattle.std.proofs.Common.{◌∙◌, ap₂, ap, sym, is_ge}
use Rattle.std.specs.Prelude.{option_map}
use Rattle.semver_texts.specs.Precedence.{precedence}
use Rattle.semver_texts.specs.Steps.PrecedenceLaws.{precedence_total}
use Rattle.version_sets.specs.Steps.Spans.{is_between}
use Rattle.version_sets.proofs.SpanLaws.{between-none}
use Rattle.version_sets.proofs.spans.Bounds.span.Goals as goal

pub returns-then-is_ge-clause-meaning : goal.returns-then-is_ge-clause-meaning
returns-then-is_ge-clause-meaning g c = λ v.
    ap₂ (λ from to. is_between precedence (option_map g.L.SpanEnd.place from) (option_map g.L.SpanEnd.place to) v) c.in_ok-from.was c.in-Some.is
    ∙ between-none precedence precedence_total _ _ v (sym (ap is_ge c.compare.ensures) ∙ sym c.is_ge.ensures ∙ c.if-is_ge.true)

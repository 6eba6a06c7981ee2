use Rattle.std.proofs.Common.{◌∙◌, ap₂}
use Rattle.semver_texts.specs.Precedence.{precedence}
use Rattle.semver_texts.specs.Steps.PrecedenceLaws.{precedence_total}
use Rattle.version_sets.specs.Steps.Spans.{is_between}
use Rattle.version_sets.proofs.SpanLaws.{between-both}
use Rattle.version_sets.proofs.HeldBoundaries.{and_hold}
use Rattle.version_sets.proofs.spans.Bounds.and.Goals as goal

pub returns-clause-meaning : goal.returns-clause-meaning
returns-clause-meaning g c = λ v.
    ap₂ (λ from to. is_between precedence from to v) c.later.ensures c.earlier.ensures
    ∙ between-both precedence precedence_total _ _ _ _ v

pub returns-clause-holds : goal.returns-clause-holds
returns-clause-holds g c = λ p e f. and_hold p _ _ _ _ _ _ c.later.ensures c.earlier.ensures e f

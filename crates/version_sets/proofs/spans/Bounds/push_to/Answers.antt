use Rattle.std.proofs.Common.{◌||◌, ◌∙◌, ap, map}
use Rattle.std.proofs.lemmas.List.{map-append}
use Rattle.std.proofs.lemmas.List.Folds.{list_any-append}
use Rattle.semver_texts.specs.Precedence.{precedence}
use Rattle.version_sets.specs.Steps.Spans.{is_in, in_some}
use Rattle.version_sets.specs.Steps.SpanViews.{span_value}
use Rattle.version_sets.proofs.IntervalLaws.{or_false}
use Rattle.version_sets.proofs.spans.Bounds.push_to.Goals as goal

pub returns-in_ok-push-clause-meaning : goal.returns-in_ok-push-clause-meaning
returns-in_ok-push-clause-meaning g c = λ v.
    let seen = span_value g.L.SpanEnd.place in
    ap (λ spans. in_some precedence (map seen spans) v) c.in_ok-push.ensures.items
    ∙ ap (λ spans. in_some precedence spans v) (map-append seen c.args.spans.now.items _)
    ∙ list_any-append (λ span. is_in precedence span v) _ _
    ∙ ap (λ b. in_some precedence (map seen c.args.spans.now.items) v || b) (or_false _ ∙ c.in-Some.ensures.meaning.1 v)

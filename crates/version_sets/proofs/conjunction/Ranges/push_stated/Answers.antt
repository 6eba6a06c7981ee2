use Rattle.std.proofs.Common.{◌≡◌, ◌&&◌, ◌||◌, ◌∙◌, Bool, true, false, refl, ap, map}
use Rattle.semver_texts.specs.Precedence.{precedence}
use Rattle.semver_texts.specs.Texts.{is_empty}
use Rattle.semver_texts.proofs.Lists.{by_test}
use Rattle.version_sets.specs.Steps.EndPlaces.{end_place}
use Rattle.version_sets.specs.Steps.Spans.{in_some}
use Rattle.version_sets.specs.Steps.SpanViews.{is_within, span_value}
use Rattle.version_sets.proofs.Lists.{answered_so}
use Rattle.version_sets.proofs.conjunction.Ranges.push_stated.Goals as goal

or_none : (b : Bool) → b ≡ (b || false)
or_none true = refl
or_none false = refl

pub returns-clause-meaning : goal.returns-clause-meaning
returns-clause-meaning c = answered_so _ c.push_to.result c.push_to.ensures.meaning (λ _ is v small. by_test (is_empty v.pre)
    (λ y. rw y (or_none _))
    (λ n. rw n (is v ∙ ap (λ b. in_some precedence (map (span_value end_place) c.args.self.now.pre_releases.items) v || b)
    (c.and.ensures.meaning v ∙ ap (λ b. is_within end_place c.args.range.now.pre_releases v && b)
    (c.among.ensures.meaning v (small, n))))))

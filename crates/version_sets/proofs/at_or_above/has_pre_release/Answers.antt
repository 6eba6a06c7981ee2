use Rattle.std.proofs.Common.{refl, rules, ◌∙◌, sym}
use Rattle.semver_texts.specs.Precedence.{precedence}
use Rattle.semver_texts.specs.Steps.PrecedenceLaws.{precedence_total}
use Rattle.version_sets.specs.Steps.SpanViews.{span_value}
use Rattle.version_sets.specs.Steps.EndPlaces.{end_place}
use Rattle.version_sets.specs.VersionSets.{Fits}
use Rattle.version_sets.proofs.AtOrAbove.{begins, has_pre}
use Rattle.version_sets.proofs.at_or_above.has_pre_release.Goals as goal

pub returns-in-Some : goal.returns-in-Some
returns-in-Some c =
    let fits : Fits (end_place c.in-Some.span.from) = search rules in
    let inside = c.in-Some.ensures.meaning in (
      λ e. (end_place c.in-Some.span.from, (fits, has_pre c.in-Some.span.from), sym (inside.1 (end_place c.in-Some.span.from)) ∙ begins precedence precedence_total (span_value end_place c.in-Some.span) inside.0),
      λ has. refl,
    )

use Rattle.std.proofs.Common.{◌≡◌, map, refl, ap, ◌∙◌, sym}
use Rattle.semver_texts.specs.Texts.{cut_at_dots}
use Rattle.semver_ranges.specs.Partials.{kept}
use Rattle.semver_ranges.specs.RangeViews.{identifier_of}
use Rattle.semver_ranges.proofs.StatedNumbers.{none_kept}
use Rattle.semver_ranges.proofs.partial.Partial.as_comparator.Goals as goal
use Rattle.semver_ranges.proofs.partial.Partial.as_comparator.Goals.{then-is_empty, else-is_empty+in_ok-pre}

pub returns-clause-value : goal.returns-clause-value
returns-clause-value c = rw pre refl where
  pre : map identifier_of c.if-is_empty.pre.items ≡ map kept (cut_at_dots c.args.self.now.pre.now)
  pre = elim c.if-is_empty.branch [
    | then-is_empty w ↦ ap (λ v. map identifier_of v.items) w.pre-is ∙ ap (map identifier_of) w.new-pre.ensures.items
        ∙ sym (none_kept c.args.self.now.pre.now (sym c.is_empty.ensures ∙ w.if-is_empty.true))
    | else-is_empty+in_ok-pre w ↦ ap (λ v. map identifier_of v.items) w.pre-is ∙ w.in_ok-pre.ensures
  ]

use Rattle.std.proofs.Common.{◌∷◌, ◌++◌, [], Ok, rules, ap, ◌∙◌}
use Rattle.std.specs.Fn.{FnReturnsAt}
use Rattle.std.proofs.lemmas.Slice.Zip.{all_zipped_more}
use Rattle.semver_texts.proofs.DottedParts.{parts_after, split_more}
use Rattle.semver_texts.proofs.dotted.cut_parts.Goals as goal

pub loop-rest-preserved : goal.loop-rest-preserved
loop-rest-preserved g c =
    let cut = c.loop-rest.invariant in
    let met : FnReturnsAt g.F.Fn c.args.make c.split_text_at_dot.result.0.now (Ok c.in_ok-make.field-0) = search rules in (
      cut.0 ++ c.split_text_at_dot.result.0.now ∷ [],
      split_more c.in-Some.text.now c.split_text_at_dot.result.0.now c.split_text_at_dot.result.1 _ cut.0 c.split_text_at_dot.ensures
          (cut.1 ∙ ap (λ rest. cut.0 ++ parts_after rest) c.in-Some.is),
      rw c.in_ok-push.ensures.items
          (all_zipped_more (λ item part. FnReturnsAt g.F.Fn c.args.make part (Ok item)) c.loop-rest.made.items cut.0 c.in_ok-make.field-0
          c.split_text_at_dot.result.0.now cut.2 met),
    )

use Rattle.std.proofs.Common.{◌≡◌, ◌∙◌, ◌++◌, ◌∷◌, [], ap, append_assoc, drop, length, refl, subst, sym}
use Rattle.std.proofs.lemmas.List.{take_rest}
use Rattle.std.proofs.lemmas.Result.{err_from_is_err_and}
use Rattle.release_filter.specs.LineTexts.{end_byte, lines_of}
use Rattle.release_filter.specs.Pieces.{FoldValue}
use Rattle.release_filter.specs.Steps.Taking.{fold_value}
use Rattle.release_filter.proofs.Folds.{stops_next, takes_more, takes_none}
use Rattle.release_filter.proofs.HeldLines.{few_held}
use Rattle.release_filter.proofs.lines.Fold.take_all.Goals as goal

pub loop-rest-init : goal.loop-rest-init
loop-rest-init c = ([], refl, takes_none (fold_value c.args.self.now) c.args.kept.now.items (few_held c.args.self.now.held))

pub returns-in_err-take-clause-stops : goal.returns-in_err-take-clause-stops
returns-in_err-take-clause-stops c =
    let before = c.loop-rest.invariant in
    let f = fold_value c.args.self.now in
    let end = end_byte c.args.self.now.judge.ending in
    let line = c.first_line-line.result.now in
    let rest = c.loop-rest.rest.now in
    let first : lines_of end rest ≡ line ∷ lines_of end (drop (length line) rest) =
    subst (λ (g : FoldValue). lines_of (end_byte g.rule.ending) rest ≡ line ∷ lines_of (end_byte g.rule.ending) (drop (length line) rest))
    before.2.folds.state c.first_line-line.ensures.first in
    let p = err_from_is_err_and c.from_residual.result c.from_residual.ensures.1 in
    rw (p.1, p.2)
    (stops_next c.precedence_is_total.ensures.total c.in_err-take.field-0.0 f (fold_value c.loop-rest.self) _ before.0 line
    (lines_of end (drop
    (length line) rest)) _
    c.args.kept.now.items c.loop-rest.kept.items _ (before.1 ∙ ap (λ l. before.0 ++ l) first) before.2 c.in_err-take.ensures.stops)

pub loop-rest-preserved : goal.loop-rest-preserved
loop-rest-preserved c =
    let before = c.loop-rest.invariant in
    let f = fold_value c.args.self.now in
    let end = end_byte c.args.self.now.judge.ending in
    let line = c.first_line-line.result.now in
    let rest = c.loop-rest.rest.now in
    let first : lines_of end rest ≡ line ∷ lines_of end (drop (length line) rest) =
    subst (λ (g : FoldValue). lines_of (end_byte g.rule.ending) rest ≡ line ∷ lines_of (end_byte g.rule.ending) (drop (length line) rest))
    before.2.folds.state c.first_line-line.ensures.first in (
      before.0 ++ line ∷ [],
      before.1 ∙ ap (λ l. before.0 ++ l) (first ∙ ap (λ l. line ∷ lines_of end l) (sym (take_rest rest (length line))))
          ∙ sym (append_assoc before.0 (line ∷ []) _),
      takes_more c.precedence_is_total.ensures.total f (fold_value c.loop-rest.self) _ before.0 (line ∷ []) c.args.kept.now.items
          c.loop-rest.kept.items _ before.2 c.in_ok-take.ensures.takes,
    )

use Rattle.std.proofs.Common.{◌∙◌, ap, refl, subst}
use Rattle.semver_texts.specs.Texts.{Text}
use Rattle.std.proofs.lemmas.Result.{err_from_is_err_and}
use Rattle.release_filter.specs.Counting.{counts_value}
use Rattle.release_filter.specs.LineTexts.{after_mark}
use Rattle.release_filter.specs.Pieces.{LinesValue, Stops, TakesLines}
use Rattle.release_filter.specs.Steps.Taking.{fold_value, some_line}
use Rattle.release_filter.specs.declared.lines.Lines.TheView.{view}
use Rattle.release_filter.specs.declared.lines.LinesError.{LinesError}
use Rattle.release_filter.proofs.Folds.{HeldFew, stops_first}
use Rattle.release_filter.proofs.HeldLines.{few_held}
use Rattle.release_filter.proofs.Pieces.{ended_line, on_err, on_ok, seen_ended, seen_stopped, stopped_line}
use Rattle.release_filter.proofs.lines.Lines.end_line.Goals as goal

pub returns-in_err-hold-clause-stops : goal.returns-in_err-hold-clause-stops
returns-in_err-hold-clause-stops c =
    let few = subst (λ (v : LinesValue). HeldFew v.fold) c.self.view_is (few_held c.self.inside.fold.held) in
    let p = err_from_is_err_and c.from_residual.result c.from_residual.ensures.1 in
    rw (p.1, p.2)
    (stops_first c.args.self.now.fold _ _ c.args.kept.now.items _ few (ap (λ (v : LinesValue). v.fold.counts) c.self.view_is) refl)

pub returns-clause-ends : goal.returns-clause-ends
returns-clause-ends c =
    let value = view c.self.inside in
    let held = c.hold.new.begun.items in
    let is = c.after_mark-line.ensures ∙ ap (after_mark value.at_front) c.as_slice.ensures.value in
    on_ok c.take_some-taken.result _ _
    (λ takes. seen_ended value _ _ _ _ _ c.self.view_is
    (ended_line value c.args.end.now held c.args.kept.now.items c.take_some-taken.new.kept.items c.in_ok-hold.ensures.held
    (fold_value c.take_some-taken.new.self) c.clear.new.self.items c.clear.ensures.items
    (subst (λ (l : Text). TakesLines value.fold (some_line l) (fold_value c.take_some-taken.new.self) c.args.kept.now.items
    c.take_some-taken.new.kept.items) is takes)))
    c.take_some-taken.ensures.takes

pub returns-clause-stops : goal.returns-clause-stops
returns-clause-stops c =
    let value = view c.self.inside in
    let held = c.hold.new.begun.items in
    let is = c.after_mark-line.ensures ∙ ap (after_mark value.at_front) c.as_slice.ensures.value in
    on_err c.take_some-taken.result _ _
    (λ (e : LinesError) stops. seen_stopped e value _ _ _ _ _ c.self.view_is
    (stopped_line value c.args.end.now held c.args.kept.now.items c.take_some-taken.new.kept.items c.in_ok-hold.ensures.held e
    (counts_value c.take_some-taken.new.self.counts)
    (subst (λ (l : Text). Stops e value.fold (some_line l) (counts_value c.take_some-taken.new.self.counts) c.args.kept.now.items
    c.take_some-taken.new.kept.items) is stops)))
    c.take_some-taken.ensures.stops

use Rattle.std.proofs.Common.{◌∙◌, ◌++◌, ◌∷◌, [], ap, subst, sym, true}
use Rattle.semver_texts.specs.Texts.{Text}
use Rattle.std.proofs.lemmas.Result.{err_from_is_err_and}
use Rattle.release_filter.specs.LineTexts.{after_mark}
use Rattle.release_filter.specs.Pieces.{Ends, LinesValue, Stops}
use Rattle.release_filter.specs.Steps.Taking.{EndsLine, closing, some_line}
use Rattle.release_filter.specs.declared.lines.Lines.TheView.{view}
use Rattle.release_filter.proofs.Cuts.{NoEnd}
use Rattle.release_filter.proofs.Pieces.{end_in, ended_file, stopped_file}
use Rattle.release_filter.proofs.lines.Lines.end.Goals as goal

pub returns-in_err-end_line-clause-stops : goal.returns-in_err-end_line-clause-stops
returns-in_err-end_line-clause-stops c =
    let s = c.args.self.now in
    let closes = c.args.closes in
    let value = view c.self.inside in
    let none = subst (λ (v : LinesValue). NoEnd (end_in v) v.begun) c.self.view_is c.self.invariant.no_end in
    let is = c.closing-end.ensures
    ∙ (λ i. closing closes ((c.after_mark-line.ensures ∙ ap (after_mark value.at_front) c.as_slice.ensures.value) i)
    (c.byte.ensures i ∷ []))
    ∙ (λ i. closing closes (after_mark (c.self.view_is i).at_front (c.self.view_is i).begun) (end_in (c.self.view_is i) ∷ [])) in
    let p = err_from_is_err_and c.from_residual.result c.from_residual.ensures.1 in
    rw (p.1, p.2)
    (stopped_file c.in_err-end_line.field-0.0 s closes _ c.args.kept.now.items c.end_line.new.kept.items none
    (subst (λ (l : Text). Stops c.in_err-end_line.field-0.0 s.fold (some_line (after_mark s.at_front
    (s.begun ++ l))) c.end_line.new.self.fold.counts
    c.args.kept.now.items c.end_line.new.kept.items) is c.in_err-end_line.ensures.stops))

pub returns-clause-ends : goal.returns-clause-ends
returns-clause-ends c =
    let s = c.args.self.now in
    let closes = c.args.closes in
    let value = view c.self.inside in
    let none = subst (λ (v : LinesValue). NoEnd (end_in v) v.begun) c.self.view_is c.self.invariant.no_end in
    let is = c.closing-end.ensures
    ∙ (λ i. closing closes ((c.after_mark-line.ensures ∙ ap (after_mark value.at_front) c.as_slice.ensures.value) i)
    (c.byte.ensures i ∷ []))
    ∙ (λ i. closing closes (after_mark (c.self.view_is i).at_front (c.self.view_is i).begun) (end_in (c.self.view_is i) ∷ [])) in
    subst (λ (v : LinesValue). Ends closes s (record v { at_front = true }) c.args.kept.now.items c.end_line.new.kept.items)
    (sym c.self-2.view_is)
    (ended_file s c.end_line.new.self closes c.args.kept.now.items c.end_line.new.kept.items none
    (subst (λ (l : Text). EndsLine s l c.end_line.new.self c.args.kept.now.items c.end_line.new.kept.items) is
    c.in_ok-end_line.ensures.ends))

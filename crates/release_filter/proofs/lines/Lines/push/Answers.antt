use Rattle.std.proofs.Common.{◌∙◌, ap, refl, subst, sym}
use Rattle.std.proofs.lemmas.Result.{err_from_is_err_and}
use Rattle.release_filter.specs.Counting.{counts_value}
use Rattle.release_filter.specs.LineTexts.{lines_of}
use Rattle.release_filter.specs.Pieces.{LinesValue, Stops, StopsIn, TakesLines}
use Rattle.release_filter.specs.Steps.Taking.{IsCut, fold_value}
use Rattle.release_filter.specs.declared.lines.LinesError.{LinesError}
use Rattle.release_filter.proofs.Cuts.{NoEnd}
use Rattle.release_filter.proofs.Folds.{HeldFew}
use Rattle.release_filter.proofs.HeldLines.{few_held}
use Rattle.release_filter.proofs.Matching.{no_length}
use Rattle.release_filter.proofs.Pieces.{end_in, on_both, on_ok, pushed_none, pushed_stop, pushed_some, some_cut_first, stopped_first}
use Rattle.release_filter.proofs.Pieces.{stopped_last, stopped_rest}
use Rattle.release_filter.proofs.lines.Lines.push.Goals as goal

pub returns-then-is_empty-clause-takes : goal.returns-then-is_empty-clause-takes
returns-then-is_empty-clause-takes c =
    let s = c.args.self.now in
    let few = subst (λ (v : LinesValue). HeldFew v.fold) c.self.view_is (few_held c.self.inside.fold.held) in
    let none = subst (λ (v : LinesValue). NoEnd (end_in v) v.begun) c.self.view_is c.self.invariant.no_end in
    let first = no_length c.cut.result.0.now (sym c.is_empty.ensures ∙ c.if-is_empty.true) in
    let parts = subst (λ (v : LinesValue). IsCut (end_in v) c.args.piece.now c.cut.result.0.now c.cut.result.1.now c.cut.result.2.now)
    c.self.view_is
    c.cut.ensures in
    on_ok c.begin_line.result _ _
    (λ is. pushed_none s c.begin_line.new.self c.args.piece.now c.cut.result.0.now c.cut.result.1.now c.cut.result.2.now
    c.args.kept.now.items few none
    parts first is) c.begin_line.ensures.held

pub returns-then-is_empty-clause-stops : goal.returns-then-is_empty-clause-stops
returns-then-is_empty-clause-stops c =
    let s = c.args.self.now in
    let few = subst (λ (v : LinesValue). HeldFew v.fold) c.self.view_is (few_held c.self.inside.fold.held) in
    let none = subst (λ (v : LinesValue). NoEnd (end_in v) v.begun) c.self.view_is c.self.invariant.no_end in
    let first = no_length c.cut.result.0.now (sym c.is_empty.ensures ∙ c.if-is_empty.true) in
    let parts = subst (λ (v : LinesValue). IsCut (end_in v) c.args.piece.now c.cut.result.0.now c.cut.result.1.now c.cut.result.2.now)
    c.self.view_is
    c.cut.ensures in
    on_both c.begin_line.result _ _ _
    (λ (e : LinesError) so is. pushed_stop e s c.begin_line.new.self c.args.piece.now c.cut.result.0.now c.cut.result.1.now
    c.cut.result.2.now
    c.args.kept.now.items few none parts first so is) c.begin_line.ensures.unchanged c.begin_line.ensures.out_of_memory

pub returns-in_err-end_line-clause-stops : goal.returns-in_err-end_line-clause-stops
returns-in_err-end_line-clause-stops c =
    let s = c.args.self.now in
    let none = subst (λ (v : LinesValue). NoEnd (end_in v) v.begun) c.self.view_is c.self.invariant.no_end in
    let parts = subst (λ (v : LinesValue). IsCut (end_in v) c.args.piece.now c.cut.result.0.now c.cut.result.1.now c.cut.result.2.now)
    c.self.view_is
    c.cut.ensures in
    let first = some_cut_first (end_in s) c.args.piece.now _ _ _ parts (sym c.is_empty.ensures ∙ c.if-is_empty.false) in
    let p = err_from_is_err_and c.from_residual.result c.from_residual.ensures.1 in
    rw (p.1, p.2)
    (stopped_first s c.args.piece.now c.cut.result.0.now c.cut.result.1.now c.cut.result.2.now parts first none c.in_err-end_line.field-0.0
    c.end_line.new.self.fold.counts c.args.kept.now.items c.end_line.new.kept.items c.in_err-end_line.ensures.stops)

pub returns-in_err-take_all-clause-stops : goal.returns-in_err-take_all-clause-stops
returns-in_err-take_all-clause-stops c =
    let s = c.args.self.now in
    let m = c.end_line.new.self in
    let whole = c.cut.result.1.now in
    let mid = c.end_line.new.kept.items in
    let new = c.take_all.new.kept.items in
    let counts = counts_value c.take_all.new.self.counts in
    let none = subst (λ (v : LinesValue). NoEnd (end_in v) v.begun) c.self.view_is c.self.invariant.no_end in
    let parts = subst (λ (v : LinesValue). IsCut (end_in v) c.args.piece.now c.cut.result.0.now whole c.cut.result.2.now)
    c.self.view_is c.cut.ensures in
    let first = some_cut_first (end_in s) c.args.piece.now _ _ _ parts (sym c.is_empty.ensures ∙ c.if-is_empty.false) in
    let p = err_from_is_err_and c.from_residual-in_err-take_all.result c.from_residual-in_err-take_all.ensures.1 in
    rw (p.1, p.2)
    (stopped_rest s c.args.piece.now c.cut.result.0.now whole c.cut.result.2.now parts first none c.precedence_is_total.ensures.total m
    c.args.kept.now.items mid c.in_ok-end_line.ensures.ends c.in_err-take_all.field-0.0 counts new
    (subst (λ (v : LinesValue). Stops c.in_err-take_all.field-0.0 v.fold (lines_of (end_in v) whole) counts mid new) c.self-2.view_is
    c.in_err-take_all.ensures.stops))

pub returns-clause-takes : goal.returns-clause-takes
returns-clause-takes c =
    let s = c.args.self.now in
    let m = c.end_line.new.self in
    let whole = c.cut.result.1.now in
    let mid = c.end_line.new.kept.items in
    let new = c.take_all.new.kept.items in
    let g = fold_value c.take_all.new.self in
    let took = c.in_ok-end_line.ensures.ends in
    let none = subst (λ (v : LinesValue). NoEnd (end_in v) v.begun) c.self.view_is c.self.invariant.no_end in
    let parts = subst (λ (v : LinesValue). IsCut (end_in v) c.args.piece.now c.cut.result.0.now whole c.cut.result.2.now)
    c.self.view_is c.cut.ensures in
    let first = some_cut_first (end_in s) c.args.piece.now _ _ _ parts (sym c.is_empty.ensures ∙ c.if-is_empty.false) in
    let rest = subst (λ (v : LinesValue). TakesLines v.fold (lines_of (end_in v) whole) g mid new) c.self-2.view_is
    c.in_ok-take_all.ensures.takes in
    let left = ap (λ (v : LinesValue). v.begun) c.self-2.view_is ∙ ap (λ (v : LinesValue). v.begun) took.state in
    on_ok c.begin_line-2.result _ _
    (λ is. pushed_some s c.args.piece.now c.cut.result.0.now whole c.cut.result.2.now parts first none c.precedence_is_total.ensures.total m
    c.args.kept.now.items mid took g new rest c.begin_line-2.new.self c.self-2.inside.begun.items left is) c.begin_line-2.ensures.held

pub returns-clause-stops : goal.returns-clause-stops
returns-clause-stops c =
    let s = c.args.self.now in
    let m = c.end_line.new.self in
    let whole = c.cut.result.1.now in
    let mid = c.end_line.new.kept.items in
    let new = c.take_all.new.kept.items in
    let g = fold_value c.take_all.new.self in
    let t = c.begin_line-2.new.self in
    let none = subst (λ (v : LinesValue). NoEnd (end_in v) v.begun) c.self.view_is c.self.invariant.no_end in
    let parts = subst (λ (v : LinesValue). IsCut (end_in v) c.args.piece.now c.cut.result.0.now whole c.cut.result.2.now)
    c.self.view_is c.cut.ensures in
    let first = some_cut_first (end_in s) c.args.piece.now _ _ _ parts (sym c.is_empty.ensures ∙ c.if-is_empty.false) in
    let rest = subst (λ (v : LinesValue). TakesLines v.fold (lines_of (end_in v) whole) g mid new) c.self-2.view_is
    c.in_ok-take_all.ensures.takes in
    on_both c.begin_line-2.result _ _ _
    (λ (e : LinesError) so is. subst (λ (x : LinesError). StopsIn x s c.args.piece.now t.fold.counts c.args.kept.now.items new) (sym is)
    (stopped_last s c.args.piece.now c.cut.result.0.now whole c.cut.result.2.now parts first none c.precedence_is_total.ensures.total m
    c.args.kept.now.items mid c.in_ok-end_line.ensures.ends g new rest t.fold.counts new (ap (λ (v : LinesValue). v.fold.counts) so) refl))
    c.begin_line-2.ensures.unchanged c.begin_line-2.ensures.out_of_memory

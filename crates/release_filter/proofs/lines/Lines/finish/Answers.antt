use Rattle.std.proofs.Common.{◌∙◌, ap, subst}
use Rattle.std.proofs.lemmas.Result.{err_from_is_err_and}
use Rattle.release_filter.specs.Pieces.{LinesValue, TakesLines, closes_last, last_lines}
use Rattle.release_filter.proofs.Folds.{stops_last}
use Rattle.release_filter.proofs.lines.Lines.finish.Goals as goal

pub returns-in_err-finish-clause-stops : goal.returns-in_err-finish-clause-stops
returns-in_err-finish-clause-stops c =
    let s = c.args.self.now in
    let m = c.end.new.self in
    let closes = c.closes_lines-closes.ensures ∙ ap closes_last c.self.view_is in
    let p = err_from_is_err_and c.from_residual-in_err-finish.result c.from_residual-in_err-finish.ensures.1 in
    rw (p.1, p.2)
    (stops_last s.fold m.fold (last_lines (closes_last s) s) _ c.args.kept.now.items c.end.new.kept.items _
    (subst (λ b. TakesLines s.fold (last_lines b s) m.fold c.args.kept.now.items c.end.new.kept.items) closes
    c.in_ok-end.ensures.ends.takes)
    (ap (λ (v : LinesValue). v.fold.counts) c.self-2.view_is) c.in_err-finish.ensures.unchanged)

use Rattle.std.proofs.Common.{ℕ}
use Rattle.release_filter.specs.Pieces.{LinesValue, closes_last, last_lines}
use Rattle.release_filter.specs.declared.lines.LinesError.{LinesError}
use Rattle.release_filter.proofs.Outcomes.{both_err, both_ok, lines_or_stop, ok_err, two_finishes, two_stops}
use Rattle.release_filter.proofs.laws.one_finish.Goals as goal

pub returns-clause-one : goal.returns-clause-one
returns-clause-one c = λ states bytes. both_ok c.finish.result c.finish-2.result _ _ _
    (two_finishes c.one_version_in.ensures.same_version c.precedence_is_total.ensures.total c.args.first.now c.args.second.now states
    c.args.kept.now.items c.args.other.now.items bytes c.finish.new.self c.finish-2.new.self c.finish.new.kept.items
    c.finish-2.new.kept.items)
    c.finish.ensures.finishes c.finish-2.ensures.finishes

pub returns-clause-one_error : goal.returns-clause-one_error
returns-clause-one_error c = λ states bytes. both_err c.finish.result c.finish-2.result _ _ _
    (λ (e f : LinesError) a b (n m : ℕ) is so. two_stops c.one_version_in.ensures.same_version c.precedence_is_total.ensures.total
    c.args.first.now c.args.second.now states c.args.kept.now.items c.args.other.now.items bytes (λ (v : LinesValue). last_lines
    (closes_last v) v) e f
    c.finish.new.self.fold.counts c.finish-2.new.self.fold.counts c.finish.new.kept.items c.finish-2.new.kept.items n m a b is so)
    c.finish.ensures.stops c.finish-2.ensures.stops

pub returns-clause-no_line : goal.returns-clause-no_line
returns-clause-no_line c = λ states. ok_err c.finish.result c.finish-2.result _ _ _
    (λ (f : LinesError) a b (n : ℕ) so. lines_or_stop c.one_version_in.ensures.same_version c.precedence_is_total.ensures.total
    c.args.first.now c.args.second.now states (λ (v : LinesValue). last_lines (closes_last v) v) a.last.fold
    c.finish-2.new.self.fold.counts c.args.kept.now.items a.before c.args.other.now.items c.finish-2.new.kept.items f n a.ends.takes b so)
    c.finish.ensures.finishes c.finish-2.ensures.stops

use Rattle.std.proofs.Common.{ℕ, true}
use Rattle.release_filter.specs.Pieces.{last_lines}
use Rattle.release_filter.specs.declared.lines.LinesError.{LinesError}
use Rattle.release_filter.proofs.Outcomes.{both_err, both_ok, lines_or_stop, ok_err, two_ends, two_stops}
use Rattle.release_filter.proofs.laws.one_end_file.Goals as goal

pub returns-clause-one : goal.returns-clause-one
returns-clause-one c = λ states bytes. both_ok c.end_file.result c.end_file-2.result _ _ _
    (two_ends c.one_version_in.ensures.same_version c.precedence_is_total.ensures.total c.args.first.now c.args.second.now states
    c.args.kept.now.items c.args.other.now.items bytes true c.end_file.new.self c.end_file-2.new.self c.end_file.new.kept.items
    c.end_file-2.new.kept.items)
    c.end_file.ensures.ends c.end_file-2.ensures.ends

pub returns-clause-one_error : goal.returns-clause-one_error
returns-clause-one_error c = λ states bytes. both_err c.end_file.result c.end_file-2.result _ _ _
    (λ (e f : LinesError) a b (n m : ℕ) is so. two_stops c.one_version_in.ensures.same_version c.precedence_is_total.ensures.total
    c.args.first.now c.args.second.now states c.args.kept.now.items c.args.other.now.items bytes (last_lines true) e f
    c.end_file.new.self.fold.counts c.end_file-2.new.self.fold.counts c.end_file.new.kept.items c.end_file-2.new.kept.items n m a b is so)
    c.end_file.ensures.stops c.end_file-2.ensures.stops

pub returns-clause-no_line : goal.returns-clause-no_line
returns-clause-no_line c = λ states. ok_err c.end_file.result c.end_file-2.result _ _ _
    (λ (f : LinesError) a b (n : ℕ) so. lines_or_stop c.one_version_in.ensures.same_version c.precedence_is_total.ensures.total
    c.args.first.now c.args.second.now states (last_lines true) c.end_file.new.self.fold
    c.end_file-2.new.self.fold.counts c.args.kept.now.items c.end_file.new.kept.items c.args.other.now.items
    c.end_file-2.new.kept.items f n a.takes b so)
    c.end_file.ensures.ends c.end_file-2.ensures.stops

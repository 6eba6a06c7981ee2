use Rattle.std.proofs.Common.{ℕ}
use Rattle.release_filter.specs.declared.lines.LinesError.{LinesError}
use Rattle.release_filter.proofs.Outcomes.{both_err, both_ok, piece_or_stop, ok_err, two_pieces, two_piece_stops}
use Rattle.release_filter.proofs.laws.one_push.Goals as goal

pub returns-clause-one : goal.returns-clause-one
returns-clause-one c = λ states bytes. both_ok c.push.result c.push-2.result _ _ _
    (two_pieces c.one_version_in.ensures.same_version c.precedence_is_total.ensures.total c.args.first.now c.args.second.now states
    c.args.kept.now.items c.args.other.now.items bytes c.push.new.self c.push-2.new.self c.args.piece.now c.push.new.kept.items
    c.push-2.new.kept.items)
    c.push.ensures.takes c.push-2.ensures.takes

pub returns-clause-one_error : goal.returns-clause-one_error
returns-clause-one_error c = λ states bytes. both_err c.push.result c.push-2.result _ _ _
    (λ (e f : LinesError) a b (n m : ℕ) is so. two_piece_stops c.one_version_in.ensures.same_version
    c.precedence_is_total.ensures.total c.args.first.now c.args.second.now states c.args.kept.now.items c.args.other.now.items bytes e f
    c.push.new.self.fold.counts c.push-2.new.self.fold.counts c.args.piece.now c.push.new.kept.items c.push-2.new.kept.items n m a b is so)
    c.push.ensures.stops c.push-2.ensures.stops

pub returns-clause-no_line : goal.returns-clause-no_line
returns-clause-no_line c = λ states. ok_err c.push.result c.push-2.result _ _ _
    (λ (f : LinesError) a b (n : ℕ) so. piece_or_stop c.one_version_in.ensures.same_version c.precedence_is_total.ensures.total
    c.args.first.now c.args.second.now states c.push.new.self c.push-2.new.self.fold.counts
    c.args.piece.now c.args.kept.now.items c.push.new.kept.items c.args.other.now.items c.push-2.new.kept.items f n a b so)
    c.push.ensures.takes c.push-2.ensures.stops

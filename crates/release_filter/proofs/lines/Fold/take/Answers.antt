use Rattle.std.proofs.Common.{refl}
use Rattle.std.proofs.lemmas.Result.{err_from_is_err_and}
use Rattle.release_filter.specs.Counting.{counts_value}
use Rattle.release_filter.specs.Steps.Taking.{fold_value, held_value, verdict_of}
use Rattle.release_filter.proofs.Folds.{is_bad, is_valid, same_kept, stopped_one, stops_first, took_one}
use Rattle.release_filter.proofs.HeldLines.{few_held}
use Rattle.release_filter.proofs.Matching.{not_both}
use Rattle.release_filter.proofs.lines.Fold.take.Goals as goal
use Rattle.release_filter.proofs.lines.Fold.take.Goals.{else-self-via-then-self+else-not-is_valid, else-self-via-else-self}

pub returns-in_err-keep-clause-stops : goal.returns-in_err-keep-clause-stops
returns-in_err-keep-clause-stops c =
    let self = c.args.self.now in
    let p = err_from_is_err_and c.from_residual.result c.from_residual.ensures.1 in
    rw (p.1, p.2)
    (stops_first (fold_value self) _ _ c.args.kept.now.items _ (few_held self.held) refl c.in_err-keep.ensures.unchanged)

pub returns-in_err-is_valid-clause-stops : goal.returns-in_err-is_valid-clause-stops
returns-in_err-is_valid-clause-stops c =
    let self = c.args.self.now in
    let verdict = verdict_of c.judge-judged.result in
    let p = err_from_is_err_and c.from_residual-in_err-is_valid.result c.from_residual-in_err-is_valid.ensures.1 in
    rw (p.1, p.2)
    (stops_first (fold_value self) _ _ c.args.kept.now.items _ (few_held self.held) c.in_err-is_valid.ensures.unchanged
    (same_kept (fold_value self) c.args.line.now verdict (held_value c.keep.new.self) c.args.kept.now.items c.keep.new.kept.items
    c.in_ok-keep.ensures.holds c.in_err-is_valid.ensures.out_of_memory))

pub returns-then-not-is_valid-clause-stops : goal.returns-then-not-is_valid-clause-stops
returns-then-not-is_valid-clause-stops c =
    let self = c.args.self.now in
    let verdict = verdict_of c.judge-judged.result in
    stopped_one (fold_value self) c.args.line.now verdict (held_value c.keep.new.self) c.args.kept.now.items c.keep.new.kept.items
    c.in_ok-keep.ensures.holds c.judge-judged.ensures (counts_value c.count.new.self) c.in_ok-is_valid.ensures.counted c.if-self.true
    (is_bad _ _ c.in_ok-is_valid.ensures.valid c.if-not-is_valid.true)

pub returns-clause-takes : goal.returns-clause-takes
returns-clause-takes c =
    let self = c.args.self.now in
    let verdict = verdict_of c.judge-judged.result in
    took_one (fold_value self) c.args.line.now verdict (held_value c.keep.new.self) c.args.kept.now.items c.keep.new.kept.items
    c.in_ok-keep.ensures.holds c.judge-judged.ensures (counts_value c.count.new.self) c.in_ok-is_valid.ensures.counted
    (λ strict. elim c.else-self.branch [
      | else-self-via-then-self+else-not-is_valid w ↦ is_valid _ _ c.in_ok-is_valid.ensures.valid w.if-not-is_valid.false
      | else-self-via-else-self w ↦ absurd (not_both strict w.if-self.false)
    ])

use Rattle.std.proofs.Common.{◌∙◌, ap, not, take, ℕ}
use Rattle.release_filter.specs.Counting.{counts_value}
use Rattle.release_filter.specs.Verdicts.{reported}
use Rattle.release_filter.proofs.LongLines.{take_min}
use Rattle.release_filter.proofs.NotedLines.{kept_first}
use Rattle.release_filter.proofs.counts.Counts.keep_first.Goals as goal

pub returns-in_ok-front-clause-first : goal.returns-in_ok-front-clause-first
returns-in_ok-front-clause-first c =
    let text = c.args.text.now in
    let front = c.in_ok-front.ensures.items ∙ ap (λ (n : ℕ). take n text) c.min.ensures ∙ take_min reported text in
    let none = c.is_none.ensures ∙ ap not c.if-is_none.true in
    λ i. record (counts_value c.args.self.now) {
      first_invalid = (kept_first c.args.self.now.first_invalid c.args.number c.in_ok-front.front text none front) i;
    }

use Rattle.std.proofs.Common.{length}
use Rattle.release_filter.proofs.judge.Judge.+judge_after_each.Given as goal

abbrev pub decreases-judge_after_each : goal.decreases-judge_after_each
decreases-judge_after_each l = length l.prefixes.now

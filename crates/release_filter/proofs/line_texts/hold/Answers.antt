use Rattle.std.proofs.Common.{arith}
use Rattle.std.proofs.lemmas.Grind.{common_steps}
use Rattle.release_filter.proofs.LongLines.{held_front}
use Rattle.release_filter.proofs.line_texts.hold.Goals as goal

pub returns-clause-held : goal.returns-clause-held
returns-clause-held c = grind (arith, common_steps, held_front)

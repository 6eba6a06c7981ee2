use Rattle.std.proofs.Common.{refl}
use Rattle.std.specs.Fmt.{digits}
use Rattle.invalid_strings.proofs.reasons.Reason.row.Goals as goal

-- the numbers in the sentence are npm's limits
pub returns-in-TooLong-clause-sentence : goal.returns-in-TooLong-clause-sentence
unfolding digits
returns-in-TooLong-clause-sentence c = rw c.in-TooLong.is refl

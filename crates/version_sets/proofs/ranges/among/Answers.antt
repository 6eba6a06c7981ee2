use Rattle.version_sets.proofs.EndLaws.{among_numbers}
use Rattle.version_sets.proofs.ranges.among.Goals as goal

pub returns-clause-meaning : goal.returns-clause-meaning
returns-clause-meaning c = λ v kind.
    among_numbers c.args.numbers _ v _ c.lowest.ensures.place kind.1 (c.above_numbers.ensures.meaning v kind)

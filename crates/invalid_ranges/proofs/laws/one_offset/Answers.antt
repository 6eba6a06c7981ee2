use Rattle.invalid_strings.proofs.LongestPrefixes.{one_longest}
use Rattle.invalid_ranges.specs.Prefixes.{BeginsAs}
use Rattle.invalid_ranges.proofs.laws.one_offset.Goals as goal

pub returns : goal.returns
returns c = record { same_offset = λ dialect. one_longest (BeginsAs dialect) }

use Rattle.std.proofs.Common.{◌≡◌, drop}
use Rattle.semver_ranges.specs.RangeTree.{is_blank}
use Rattle.semver_ranges.specs.Steps.Reading.{back}
use Rattle.semver_ranges.proofs.grammar.after_blanks.Given as goal

abbrev pub invariant-loop-at : goal.invariant-loop-at
invariant-loop-at l = back (is_blank l.grammar) l.text ≡ back (is_blank l.grammar) (drop l.at l.text)

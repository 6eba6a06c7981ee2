use Rattle.std.proofs.Common.{◌≡◌}
use Rattle.semver_ranges.specs.RangeTree.{SetTree}
use Rattle.tool_ranges.specs.Dialects.{SpellsAs}
use Rattle.range_terms.specs.WrittenTerms.{terms_in}
use Rattle.range_upgrades.specs.Alternatives.{last_of, last_with}
use Rattle.range_upgrades.proofs.alternatives.last_alternative.Given as goal

abbrev pub invariant-loop-term : goal.invariant-loop-term
invariant-loop-term l = (tree : SetTree) (spelled : SpellsAs l.fn.dialect tree l.range)
    → last_with l.last l.term-iterator ≡ last_of (terms_in l.fn.dialect tree l.range spelled)

use Rattle.std.proofs.Common.{[], ◌∷◌, codes, refl}
use Rattle.semver_ranges.specs.declared.operator.Operator.TheVariants.{Less, Tilde, Caret}
use Rattle.semver_ranges.specs.RangeTree.{one, hyphen}
use Rattle.semver_parser.specs.Examples.{lone, beta, caret_beta}
use Rattle.semver_parser.proofs.RowFacts.{below_rc, below_rc_spells, either, either_spells, from_a, up_to_two_spells, dropped_a}
use Rattle.semver_parser.proofs.RowFacts.{dropped_a_spells, second, below_second_spells}
use Rattle.semver_parser.proofs.laws.stated_row_facts.Goals as goal

pub returns-clause-stated : goal.returns-clause-stated
returns-clause-stated c = λ mode. (lone Caret beta, caret_beta, refl, refl)

pub returns-clause-other_numbers : goal.returns-clause-other_numbers
returns-clause-other_numbers c = λ mode. (lone Caret beta, caret_beta, refl, refl)

pub returns-clause-another_term : goal.returns-clause-another_term
returns-clause-another_term c = λ mode. (below_rc, below_rc_spells, refl, refl)

pub returns-clause-another_range : goal.returns-clause-another_range
returns-clause-another_range c = λ mode. (either, either_spells, refl, refl)

pub returns-clause-side : goal.returns-clause-side
returns-clause-side c = λ mode. (hyphen from_a (one (codes "2")) ∷ [], up_to_two_spells, refl, refl)

pub returns-clause-other_side : goal.returns-clause-other_side
returns-clause-other_side c = λ mode. (hyphen from_a (one (codes "2")) ∷ [], up_to_two_spells, refl, refl)

pub returns-clause-wildcard : goal.returns-clause-wildcard
returns-clause-wildcard c = λ mode. (lone Tilde dropped_a, dropped_a_spells, refl, refl)

pub returns-clause-numbers_alone : goal.returns-clause-numbers_alone
returns-clause-numbers_alone c = λ mode. (lone Less second, below_second_spells, refl, refl)

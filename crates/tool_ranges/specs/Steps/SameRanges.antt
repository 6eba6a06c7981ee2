-- `same_range` is an equivalence, as `==` requires: a means of proof.
use Rattle.std.specs.Cmp.{IsEquivalence}
use Rattle.std.proofs.lemmas.Cmp.{int_eq_equiv, on_equiv, and_equiv}
use Rattle.semver_ranges.specs.DialectTable.{number_of}
use Rattle.tool_ranges.specs.VersionRanges.{RangeValue, same_range}
use Rattle.tool_ranges.specs.declared.meaning.Rules.{Rules}
use Rattle.version_sets.specs.PreReleaseTable.{number_of as rule_number}
use Rattle.version_sets.specs.Steps.SameSets.{sets_equiv}

pub ranges_equiv : IsEquivalence same_range
ranges_equiv =
    and_equiv (on_equiv (λ (r : RangeValue). r.meaning)
    (and_equiv (on_equiv (λ (m : Rules). number_of m.dialect) int_eq_equiv)
    (on_equiv (λ (m : Rules). rule_number m.pre_releases) int_eq_equiv)))
    (on_equiv (λ (r : RangeValue). r.versions) sets_equiv)

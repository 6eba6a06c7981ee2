-- Ranges that `==` finds equal have the same meaning and the same boundaries, so their hashes are
-- the same: a means of proof, for `Hash`.
use Rattle.std.specs.Prelude.{◌≡◌, ◌++◌, IsTrue}
use Rattle.std.specs.Cmp.{signed_Decides}
use Rattle.std.specs.Hash as fed
use Rattle.std.specs.Ordering.{int_eq}
use Rattle.std.proofs.Common.{refl}
use Rattle.std.proofs.lemmas.Bool.{and_parts}
use Rattle.version_sets.specs.declared.rules.PreReleases.{PreReleases}
use Rattle.version_sets.specs.declared.rules.PreReleases.TheVariants.{Excluded, ByDialect, Included}
use Rattle.version_sets.specs.PreReleaseTable.{number_of as rule_number}
use Rattle.version_sets.specs.Steps.HashedSets.{same_sets_hash_alike}
use Rattle.version_sets.specs.VersionSets.{same_set}
use Rattle.semver_ranges.specs.DialectTable.{number_of}
use Rattle.tool_ranges.specs.HashedRanges.{hashed_range, rule_place}
use Rattle.tool_ranges.specs.VersionRanges.{RangeValue, same_meaning, same_range}

same_place : (a b : PreReleases) → rule_number a ≡ rule_number b → rule_place a ≡ rule_place b
same_place Excluded Excluded e = refl
same_place ByDialect ByDialect e = refl
same_place Included Included e = refl
same_place Excluded ByDialect e = cc
same_place Excluded Included e = cc
same_place ByDialect Excluded e = cc
same_place ByDialect Included e = cc
same_place Included Excluded e = cc
same_place Included ByDialect e = cc

pub same_ranges_hash_alike : (a b : RangeValue) → IsTrue (same_range a b) → hashed_range a ≡ hashed_range b
same_ranges_hash_alike a b e =
    let both = and_parts (same_meaning a.meaning b.meaning) (same_set a.versions b.versions) e in
    let d = number_of a.meaning.dialect in
    let p = rule_number a.meaning.pre_releases in
    let rules = and_parts (int_eq d (number_of b.meaning.dialect)) (int_eq p (rule_number b.meaning.pre_releases)) both.0 in
    let dialect = (signed_Decides d (number_of b.meaning.dialect)).0 rules.0 in
    let rule = same_place a.meaning.pre_releases b.meaning.pre_releases ((signed_Decides p (rule_number b.meaning.pre_releases)).0 rules.1) in
    let sets = same_sets_hash_alike a.versions b.versions both.1 in
    λ i. fed.isize (dialect i) ++ (fed.isize (rule i) ++ sets i)

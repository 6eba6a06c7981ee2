-- `same_set` is an equivalence, as `==` requires: a means of proof.
use Rattle.std.specs.Prelude.{◌≡◌, true, refl}
use Rattle.std.specs.Cmp.{IsEquivalence}
use Rattle.std.proofs.lemmas.Cmp.{lists_equiv, eq_by_cmp_equiv, on_equiv, and_equiv}
use Rattle.semver_texts.specs.declared.grammar.Digits.{Digits}
use Rattle.semver_texts.specs.declared.grammar.Digits.TheVariants.{Kept, AnySize}
use Rattle.version_sets.specs.VersionSets.{SetValue, same_digits, same_set}
use Rattle.semver_texts.specs.Steps.PrecedenceLaws.{precedence_total}

same_symm : (d e : Digits) → same_digits d e ≡ same_digits e d
same_symm Kept Kept = refl
same_symm Kept AnySize = refl
same_symm AnySize Kept = refl
same_symm AnySize AnySize = refl

same_congr : (d e f : Digits) → same_digits d e ≡ true → same_digits d f ≡ same_digits e f
same_congr Kept Kept f is = refl
same_congr Kept AnySize f is = cc
same_congr AnySize Kept f is = cc
same_congr AnySize AnySize f is = refl

same_refl : (d : Digits) → same_digits d d ≡ true
same_refl Kept = refl
same_refl AnySize = refl

digits_equiv : IsEquivalence same_digits
digits_equiv = record { refl = same_refl; symm = same_symm; congr = same_congr }

pub sets_equiv : IsEquivalence same_set
sets_equiv =
    let alike = lists_equiv (eq_by_cmp_equiv precedence_total) in
    and_equiv (on_equiv (λ (s : SetValue). s.digits) digits_equiv)
    (and_equiv (on_equiv (λ (s : SetValue). s.releases) alike)
    (on_equiv (λ (s : SetValue). s.pre_releases) alike))

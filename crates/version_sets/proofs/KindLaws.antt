-- Releases and pre-releases are kinds: each has a version right above it, if any is above, and none
-- is below the lowest of its kind.
use Rattle.std.proofs.Common.{arith, ◌≡◌, Bool, true, false, cond, not, List, [], ◌∷◌, refl, sym, ap, ◌∙◌}
use Rattle.std.proofs.Common.{Equal, is_ge, is_gt, is_lt}
use Rattle.std.specs.Prelude.{Option, Some, None, option_map}
use Rattle.std.proofs.lemmas.Bool.Decides.{nat_tests}
use Rattle.semver_texts.specs.Precedence.{pre_cmp, precedence}
use Rattle.semver_texts.specs.Texts.{is_empty}
use Rattle.semver_texts.specs.Versions.{IdentifierValue, numeric, alphanumeric, PlainVersion}
use Rattle.version_sets.specs.VersionSets.{Fits, IsRelease, IsPreRelease}
use Rattle.version_sets.specs.SetRanges.{next_release, is_lowest, is_lowest_pre, is_same_end, pre_release_above}
use Rattle.version_sets.specs.SetRanges.{lowest_pre_release, of_pre_releases, of_releases, pre_release_end}
use Rattle.version_sets.specs.Steps.Numbers.{numbers_cmp}
use Rattle.version_sets.proofs.NumberLaws.{from, from_lowest, before_release, zero_lowest, against, release_reaches, none_above, right_above}
use Rattle.version_sets.proofs.SweepLaws.{by_test}
use Rattle.version_sets.proofs.IntervalLaws.{IsKind, below_is, same_end}

-- whether the numbers of v are at or above those of another version, if there is one
reached : Option PlainVersion → PlainVersion → Bool
reached None v = false
reached (Some w) v = is_ge (numbers_cmp v w)

numbers_above : (a v : PlainVersion) → Fits a → Fits v → reached (next_release a) v ≡ is_gt (numbers_cmp v a)
unfolding reached
numbers_above a v f g = grind (arith, nat_tests)

release_from : (n : Option PlainVersion) (v : PlainVersion) → is_empty v.pre ≡ true → from n v ≡ reached n v
unfolding reached
release_from None v e = refl
release_from (Some w) v e = sym (against is_ge is_ge v w refl refl (release_reaches v.pre w.pre e))

-- no numbers are below 0.0.0
from_zero : (a v : PlainVersion) → is_lowest a ≡ true → is_ge (numbers_cmp v a) ≡ true
from_zero a v e = grind (arith, nat_tests)

-- a release isn't below 0.0.0 or 0.0.0-0
pub release_lowest : (a v : PlainVersion) → is_empty v.pre ≡ true → is_lowest a ≡ true → is_ge (precedence v a) ≡ true
release_lowest a v e l = sym (against is_ge is_ge v a refl refl (release_reaches v.pre a.pre e)) ∙ from_zero a v l

pub releases_are_kind : IsKind IsRelease of_releases
releases_are_kind = record {
  above = λ a v pa pv.
      release_from (next_release a) v pv.1 ∙ numbers_above a v pa.0 pv.0
      ∙ against is_gt is_gt v a refl refl (none_above v.pre a.pre pa.1);
  lowest = λ a v pa pv l. release_lowest a v pv.1 l;
  ends = λ a b v pa pb pv. refl;
}

pub lowest_pre : (xs ws : List IdentifierValue) → is_empty xs ≡ false → is_empty ws ≡ false → is_lowest_pre ws ≡ true
    → is_ge Equal ≡ is_ge (pre_cmp xs ws)
lowest_pre [] ws e f l = cc
lowest_pre (x ∷ xs) [] e f l = cc
lowest_pre (x ∷ xs) (numeric n ∷ []) e f l =
    let zero : n ≡ 0 = grind (arith, nat_tests) in
    sym (zero_lowest x xs) ∙ ap (λ m. is_ge (pre_cmp (x ∷ xs) (numeric m ∷ []))) (sym zero)
lowest_pre (x ∷ xs) (numeric n ∷ w ∷ ws) e f l = cc
lowest_pre (x ∷ xs) (alphanumeric t ∷ ws) e f l = cc

is_lowest-pre : (a : PlainVersion) → is_lowest a ≡ true → is_lowest_pre a.pre ≡ true
is_lowest-pre a l = grind (arith, nat_tests)

-- a pre-release isn't below 0.0.0-0
pub pre_release_lowest : (a v : PlainVersion) → is_empty a.pre ≡ false → is_empty v.pre ≡ false → is_lowest a ≡ true
    → is_ge (precedence v a) ≡ true
pre_release_lowest a v f e l =
    sym (against is_ge is_ge v a refl refl (lowest_pre v.pre a.pre e f (is_lowest-pre a l))) ∙ from_zero a v l

-- the pre-releases below `pre_release_above a` are those below the release with the numbers of a
from_above : (n : Option PlainVersion) (v : PlainVersion) → is_empty v.pre ≡ false
    → from (option_map lowest_pre_release n) v ≡ reached n v
unfolding reached
from_above None v e = refl
from_above (Some w) v e =
    sym (against is_ge is_ge v (lowest_pre_release w) refl refl (from_lowest v.pre e))

below_release : (a b v : PlainVersion) → IsPreRelease a → IsPreRelease v → is_same_end (Some b) (pre_release_above a) ≡ true
    → is_lt (precedence v (record a { pre = [] })) ≡ is_lt (precedence v b)
below_release a b v pa pv same =
    let release : PlainVersion = record a { pre = [] } in
    let above : is_ge (precedence v b) ≡ is_gt (numbers_cmp v release) =
    ap (λ t. from t v) (same_end (Some b) (pre_release_above a) same) ∙ from_above (next_release release) v pv.1
    ∙ numbers_above release v pa.0 pv.0 in
    below_is (precedence v release) ∙ ap not (sym (against is_gt is_ge v release refl refl (before_release v.pre [] pv.1 refl)))
    ∙ ap not (sym above) ∙ sym (below_is (precedence v b))

ends_below : (a b v : PlainVersion) → IsPreRelease a → IsPreRelease v → is_lt (precedence v (pre_release_end a b)) ≡ is_lt (precedence v b)
ends_below a b v pa pv =
    let release : PlainVersion = record a { pre = [] } in
    by_test (is_same_end (Some b) (pre_release_above a))
    (λ e. ap (λ t. is_lt (precedence v (cond t release b))) e ∙ below_release a b v pa pv e)
    (λ e. ap (λ t. is_lt (precedence v (cond t release b))) e)

pub pre_releases_are_kind : IsKind IsPreRelease of_pre_releases
pre_releases_are_kind = record {
  above = λ a v pa pv. right_above a v pa.1 pv.1;
  lowest = λ a v pa pv l. pre_release_lowest a v pa.1 pv.1 l;
  ends = λ a b v pa pb pv. ends_below a b v pa pv;
}

-- Sets with the same versions have the same boundaries; and the results of `==`, `is_subset` and
-- `is_disjoint` in terms of versions.
use Rattle.std.proofs.Common.{arith, ◌≡◌, ◌↔◌, Bool, true, false, not, ◌&&◌, refl, sym}
use Rattle.std.proofs.lemmas.Bool.{and_parts}
use Rattle.std.proofs.Common.{ap, ap₂, ◌∙◌, subst, true≢false, Ordering, Equal, is_eq}
use lib.Pointwise.{pointwise_decides}
use Rattle.std.specs.Cmp.{tied_itself}
use Rattle.std.specs.Ordering.{eq_by_cmp}
use Rattle.semver_texts.specs.Versions.{PlainVersion}
use Rattle.semver_texts.specs.Precedence.{precedence}
use Rattle.version_sets.specs.declared.set_operations.Combination.TheVariants.{Difference, Intersection}
use Rattle.semver_texts.specs.declared.grammar.Digits.{Digits}
use Rattle.semver_texts.specs.declared.grammar.Digits.TheVariants.{Kept, AnySize}
use Rattle.version_sets.specs.VersionSets.{SetValue, contains, Fits, IsIn, same_digits, same_set, IsNormal}
use Rattle.version_sets.specs.Combinations.{KeepsSome}
use Rattle.semver_texts.specs.Steps.PrecedenceLaws.{precedence_total, precedence-same}
use Rattle.version_sets.proofs.SetLaws.{contains-release, contains-pre_release}
use Rattle.version_sets.proofs.BoundaryLaws.{one_list}
use Rattle.version_sets.proofs.SweepLaws.{by_test}

one_answer : (p q : Bool) → (p ≡ true → q ≡ true) → (q ≡ true → p ≡ true) → p ≡ q
one_answer p q e f = grind arith

pub equal_is : (r : Ordering) → is_eq r ≡ true → r ≡ Equal
equal_is r e = grind arith

-- versions are equal in precedence if and only if they are equal
exact : (v w : PlainVersion) → (eq_by_cmp precedence v w ≡ true → v ≡ w) × (v ≡ w → eq_by_cmp precedence v w ≡ true)
exact v w = (
  λ e. precedence-same v w (equal_is (precedence v w) e),
  λ e. ap is_eq (ap (precedence v) (sym e) ∙ tied_itself precedence_total v),
)

one_reading : (d e : Digits) → same_digits d e ≡ true → d ≡ e
one_reading Kept Kept is = refl
one_reading Kept AnySize is = cc
one_reading AnySize Kept is = cc
one_reading AnySize AnySize is = refl

read_alike : (d : Digits) → same_digits d d ≡ true
read_alike Kept = refl
read_alike AnySize = refl

-- `same_set` holds if and only if the two sets are equal
pub same_is : (a b : SetValue) (r : Bool) → r ≡ same_set a b → (r ≡ true) ↔ (a ≡ b)
same_is a b r e =
    let releases = pointwise_decides exact a.releases b.releases in
    let pre_releases = pointwise_decides exact a.pre_releases b.pre_releases in (
      λ h. let both = and_parts _ _ (sym e ∙ h) in
          let lists = and_parts _ _ both.1 in
          let digits = one_reading a.digits b.digits both.0 in
          λ i. record { releases = releases.0 lists.0 i; pre_releases = pre_releases.0 lists.1 i; digits = digits i },
      λ is. e ∙ ap₂ (λ p q. p && q) (ap (same_digits a.digits) (ap (λ (s : SetValue). s.digits) (sym is)) ∙ read_alike a.digits)
          (ap₂ (λ p q. p && q) (releases.1 (ap (λ s. s.releases) is)) (pre_releases.1 (ap (λ s. s.pre_releases) is))),
    )

-- sets in the normal form are equal if they read digits in the same way and contain the same
-- versions
pub one_set : (a b : SetValue) → IsNormal a → IsNormal b → a.digits ≡ b.digits → ((v : PlainVersion) → IsIn v a ↔ IsIn v b) → a ≡ b
one_set a b s t digits h =
    let alike = λ (v : PlainVersion) (fits : Fits v).
    one_answer (contains a v) (contains b v) (λ i. ((h v).0 (fits, i)).1) (λ i. ((h v).1 (fits, i)).1) in
    let releases = one_list precedence precedence_total precedence-same _ a.releases b.releases
    s.releases.increase t.releases.increase
    s.releases.are_of_kind t.releases.are_of_kind (λ v k. sym (contains-release a v k.1) ∙ alike v k.0 ∙ contains-release b v k.1) in
    let pre_releases = one_list precedence precedence_total precedence-same _ a.pre_releases b.pre_releases s.pre_releases.increase
    t.pre_releases.increase s.pre_releases.are_of_kind t.pre_releases.are_of_kind
    (λ v k. sym (contains-pre_release a v k.1) ∙ alike v k.0 ∙ contains-pre_release b v k.1) in
    λ i. record { releases = releases i; pre_releases = pre_releases i; digits = digits i }

pub same_versions : (a b : SetValue) → IsNormal a → IsNormal b → (r : Bool) → r ≡ same_set a b
    → (r ≡ true) ↔ ((a.digits ≡ b.digits) × ((v : PlainVersion) → IsIn v a ↔ IsIn v b))
same_versions a b s t r e =
    let is = same_is a b r e in (
      λ h. (ap (λ (s : SetValue). s.digits) (is.0 h), λ v. subst (λ c. IsIn v a ↔ IsIn v c) (is.0 h) (λ i. i, λ i. i)),
      λ h. is.1 (one_set a b s t h.0 h.1),
    )

-- a set that isn't a subset, or isn't disjoint, has a witness
pub witness : {P : Type 0} (k : Bool) → (k ≡ true) ↔ P → not k ≡ false → P
witness k some e = some.0 (grind arith)

-- a set is a subset of another if and only if no version is only in it; below, they are disjoint if
-- and only if no version is in both
pub tells_within : (a b : SetValue) (k : Bool) → (k ≡ true) ↔ KeepsSome Difference a b
    → (not k ≡ true) ↔ ((v : PlainVersion) → IsIn v a → IsIn v b)
tells_within a b k some = (
  λ e v h. (
    h.0,
    by_test (contains b v) (λ t. t)
        (λ f. absurd (true≢false (sym e ∙ ap not (some.1 (v, (h.0, ap₂ (λ p q. p && not q) h.1 f)))))),
  ),
  λ h. by_test k
      (λ t. let found = some.0 t in
      let parts = and_parts _ _ found.1.1 in
      absurd (true≢false (sym parts.1 ∙ ap not (h found.0 (found.1.0, parts.0)).1)))
      (λ f. ap not f),
)

pub tells_apart : (a b : SetValue) (k : Bool) → (k ≡ true) ↔ KeepsSome Intersection a b
    → (not k ≡ true) ↔ ((v : PlainVersion) → IsIn v a → ¬ (IsIn v b))
tells_apart a b k some = (
  λ e v h g. true≢false (sym e ∙ ap not (some.1 (v, (h.0, ap₂ (λ p q. p && q) h.1 g.1)))),
  λ h. by_test k
      (λ t. let found = some.0 t in
      let parts = and_parts _ _ found.1.1 in
      absurd (h found.0 (found.1.0, parts.0) (found.1.0, parts.1)))
      (λ f. ap not f),
)

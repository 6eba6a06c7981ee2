-- Which versions are in the combination of two sets. The combination is in the normal form, and it
-- is printable if both sets are.
use Rattle.std.proofs.Common.{arith, ◌≡◌, ◌↔◌, Bool, true, false, ◌||◌, cond, List, [], ◌∷◌, refl, sym, ap, ap₂, ◌∙◌}
use Rattle.std.proofs.lemmas.Bool.{and_parts}
use Rattle.std.specs.List.{AllByRecursion, list_all}
use Rattle.version_sets.specs.Printable.{IsPrintable, is_printable_boundary}
use Rattle.semver_texts.specs.Texts.{is_empty}
use Rattle.semver_texts.specs.Versions.{PlainVersion}
use Rattle.semver_texts.specs.Precedence.{precedence}
use Rattle.version_sets.specs.declared.set_operations.Combination.{Combination}
use Rattle.version_sets.specs.Boundaries.{is_inside}
use Rattle.version_sets.specs.VersionSets.{SetValue, contains, IsRelease, IsPreRelease, AreBoundaries, IsNormal}
use Rattle.version_sets.specs.Steps.Sweeps.{held}
use Rattle.version_sets.specs.Combinations.{keeps, KeepsSome}
use Rattle.version_sets.specs.Steps.Combined.{pieces, keeps_some, combined, combined_sets}
use Rattle.semver_texts.specs.Steps.PrecedenceLaws.{precedence_total}
use Rattle.version_sets.proofs.SweepLaws.{sweep-is, changes-rise, changes-each, changes-hold, some_held, held_some, by_test}

keeps_nothing : (how : Combination) → keeps how false false ≡ false
keeps_nothing how = grind arith

or_second : (p q : Bool) → q ≡ true → (p || q) ≡ true
or_second p q e = grind arith

-- ---- one kind

module _ (P : PlainVersion → Type 0) (how : Combination) (xs ys : List PlainVersion) where
  kept : (v : PlainVersion)
      → held precedence (keeps how) false (pieces xs ys) v ≡ keeps how (is_inside precedence xs v) (is_inside precedence ys v)
  kept v =
      ap (λ k. held precedence (keeps how) k (pieces xs ys) v) (sym (keeps_nothing how))
      ∙ (sweep-is precedence precedence_total P xs false false ys).holds (keeps how) v

  module _ (s : AreBoundaries P xs) (t : AreBoundaries P ys) where
    pub combined-are : AreBoundaries P (combined how (pieces xs ys))
    combined-are =
        let w = sweep-is precedence precedence_total P xs false false ys in
        record {
          increase = changes-rise precedence precedence_total P (keeps how) false (pieces xs ys) (w.rises s.increase t.increase);
          are_of_kind = changes-each precedence precedence_total P (keeps how) false (pieces xs ys) (w.each s.are_of_kind t.are_of_kind);
        }

    pub combined-contains : (v : PlainVersion)
        → is_inside precedence (combined how (pieces xs ys)) v ≡ keeps how (is_inside precedence xs v) (is_inside precedence ys v)
    combined-contains v =
        let w = sweep-is precedence precedence_total P xs false false ys in
        changes-hold precedence precedence_total P (keeps how) false (pieces xs ys) v (w.rises s.increase t.increase) ∙ kept v

    some_kept : keeps_some how (pieces xs ys) ≡ true
        → (v : PlainVersion) × P v × (keeps how (is_inside precedence xs v) (is_inside precedence ys v) ≡ true)
    some_kept e =
        let w = sweep-is precedence precedence_total P xs false false ys in
        let found = some_held precedence precedence_total P (keeps how) false (pieces xs ys) (w.rises s.increase t.increase)
        (w.each s.are_of_kind t.are_of_kind) e in
        (found.0, found.1, sym (kept found.0) ∙ found.2)

    kept_some : (v : PlainVersion) → keeps how (is_inside precedence xs v) (is_inside precedence ys v) ≡ true
        → keeps_some how (pieces xs ys) ≡ true
    kept_some v e = held_some precedence precedence_total P (keeps how) (pieces xs ys) v (kept v ∙ e)

-- ---- both kinds

-- the boundaries of the releases decide whether a release is in a set, and the others whether a
-- pre-release is
pub contains-release : (set : SetValue) (v : PlainVersion) → is_empty v.pre ≡ true → contains set v ≡ is_inside precedence set.releases v
contains-release set v e = ap (λ b. cond b (is_inside precedence set.releases v) (is_inside precedence set.pre_releases v)) e

pub contains-pre_release : (set : SetValue) (v : PlainVersion) → is_empty v.pre ≡ false → contains set v ≡ is_inside precedence set.pre_releases v
contains-pre_release set v e = ap (λ b. cond b (is_inside precedence set.releases v) (is_inside precedence set.pre_releases v)) e

module _ (how : Combination) (a b : SetValue) (s : IsNormal a) (t : IsNormal b) where
  pub combined-normal : IsNormal (combined_sets how a b)
  combined-normal = record {
    releases = combined-are IsRelease how a.releases b.releases s.releases t.releases;
    pre_releases = combined-are IsPreRelease how a.pre_releases b.pre_releases s.pre_releases t.pre_releases;
  }

  -- which versions are in the combination
  pub contains-combined : (v : PlainVersion) → contains (combined_sets how a b) v ≡ keeps how (contains a v) (contains b v)
  contains-combined v =
      by_test (is_empty v.pre)
      (λ e. contains-release (combined_sets how a b) v e ∙ combined-contains IsRelease how a.releases b.releases s.releases t.releases v
      ∙ sym (ap₂ (keeps how) (contains-release a v e) (contains-release b v e)))
      (λ e. contains-pre_release (combined_sets how a b) v e
      ∙ combined-contains IsPreRelease how a.pre_releases b.pre_releases s.pre_releases t.pre_releases v
      ∙ sym (ap₂ (keeps how) (contains-pre_release a v e) (contains-pre_release b v e)))

  pub some_release : keeps_some how (pieces a.releases b.releases) ≡ true → KeepsSome how a b
  some_release e =
      let found = some_kept IsRelease how a.releases b.releases s.releases t.releases e in
      (found.0, (found.1.0, ap₂ (keeps how) (contains-release a found.0 found.1.1) (contains-release b found.0 found.1.1) ∙ found.2))

  pub some_pre_release : keeps_some how (pieces a.pre_releases b.pre_releases) ≡ true → KeepsSome how a b
  some_pre_release e =
      let found = some_kept IsPreRelease how a.pre_releases b.pre_releases s.pre_releases t.pre_releases e in
      (found.0, (found.1.0, ap₂ (keeps how) (contains-pre_release a found.0 found.1.1) (contains-pre_release b found.0 found.1.1) ∙ found.2))

  abbrev pub keeps_any : Bool
  keeps_any = keeps_some how (pieces a.releases b.releases) || keeps_some how (pieces a.pre_releases b.pre_releases)

  pub some_is : keeps_any ≡ true → KeepsSome how a b
  some_is e =
      by_test (keeps_some how (pieces a.releases b.releases)) some_release
      (λ n. some_pre_release (ap (λ r. r || keeps_some how (pieces a.pre_releases b.pre_releases)) (sym n) ∙ e))

  pub is_some : (v : PlainVersion) → keeps how (contains a v) (contains b v) ≡ true → keeps_any ≡ true
  is_some v h =
      by_test (is_empty v.pre)
      (λ e. ap (λ r. r || keeps_some how (pieces a.pre_releases b.pre_releases))
      (kept_some IsRelease how a.releases b.releases s.releases t.releases v
      (sym (ap₂ (keeps how) (contains-release a v e) (contains-release b v e)) ∙ h)))
      (λ e. or_second _ _ (kept_some IsPreRelease how a.pre_releases b.pre_releases s.pre_releases t.pre_releases v
      (sym (ap₂ (keeps how) (contains-pre_release a v e) (contains-pre_release b v e)) ∙ h)))

  -- `keeps_any` is true if and only if some version is in the combination
  pub tells_some : (r : Bool) → r ≡ keeps_any → (r ≡ true) ↔ KeepsSome how a b
  tells_some r e = (λ h. some_is (sym e ∙ h), λ k. e ∙ is_some k.0 k.1.1)

pub by_first : (r p q : Bool) → r ≡ p → r ≡ true → r ≡ (p || q)
by_first r p q e f = grind arith

pub by_second : (r s p q : Bool) → r ≡ p → r ≡ false → s ≡ q → s ≡ (p || q)
by_second r s p q e f g = grind arith

-- ---- printable boundaries

abbrev Prints : PlainVersion → Type 0
Prints v = is_printable_boundary v ≡ true

each_prints : (vs : List PlainVersion) → list_all is_printable_boundary vs ≡ true → AllByRecursion Prints vs
each_prints [] e = tt
each_prints (v ∷ vs) e = let both = and_parts (is_printable_boundary v) _ e in (both.0, each_prints vs both.1)

all_print : (vs : List PlainVersion) → AllByRecursion Prints vs → list_all is_printable_boundary vs ≡ true
all_print [] each = refl
all_print (v ∷ vs) each = rw each.0 (all_print vs each.1)

pub combined-prints : (how : Combination) (a b : SetValue) → IsNormal a → IsNormal b → IsPrintable a → IsPrintable b
    → IsPrintable (combined_sets how a b)
combined-prints how a b s t p q =
    let first : AreBoundaries Prints a.pre_releases =
    record { increase = s.pre_releases.increase; are_of_kind = each_prints a.pre_releases p } in
    let second : AreBoundaries Prints b.pre_releases =
    record { increase = t.pre_releases.increase; are_of_kind = each_prints b.pre_releases q } in
    all_print (combined how (pieces a.pre_releases b.pre_releases))
    (combined-are Prints how a.pre_releases b.pre_releases first second).are_of_kind

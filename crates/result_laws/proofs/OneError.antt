-- Two errors of one text count as the same.
use Rattle.std.proofs.Common.{◌≡◌, ◌⊎◌, ℕ, Option, refl, sym, ap, subst, ◌∙◌, inl, inr}
use Rattle.semver_texts.specs.Texts.{Text}
use Rattle.invalid_strings.specs.declared.reasons.Reason.{Reason}
use Rattle.range_terms.specs.declared.term.Span.{Span}
use Rattle.range_upgrades.specs.declared.upgrade.UpgradeError.{UpgradeError}
use Rattle.range_upgrades.specs.declared.upgrade.UpgradeError.TheVariants as upgrade
use Rattle.repaired_strings.specs.Errors.{IsErrorAt}
use Rattle.repaired_strings.specs.Spans.{IsSpanOf, kind_at}
use Rattle.repaired_strings.specs.declared.errors.Expected.{Expected}
use Rattle.repaired_strings.specs.declared.errors.Expected.TheVariants.{Range, Version}
use Rattle.semver_ranges.specs.declared.range_set.RangeError.{RangeError}
use Rattle.semver_ranges.specs.declared.range_set.RangeError.TheVariants as range
use Rattle.semver_ranges.specs.declared.dialect.Dialect.{Dialect}
use Rattle.tool_ranges.specs.declared.satisfying.SatisfiesError.{SatisfiesError}
use Rattle.tool_ranges.specs.declared.satisfying.SatisfiesError.TheVariants as satisfies
use Rattle.semver_errors.specs.Conversions.{IsRangeError, IsSatisfiesError, IsUpgradeError}
use Rattle.semver_errors.specs.ErrorValues.{CannotUpgrade, Converted, DifferentRules, ErrorValue, Invalid}
use Rattle.semver_errors.specs.ErrorValues.{IsErrorOf, IsOrOutOfMemory, OutOfMemory, Place, UnknownName}
use Rattle.result_laws.specs.OneError.{AreOneError}

-- a text has one first error, and that has one span
pub record HaveOne : Type 0 where
  pub offset : (e : Expected) (d : Dialect) (t : Text) (m n : ℕ) (x y : Reason)
      → IsErrorAt e d t m x → IsErrorAt e d t n y → m ≡ n
  pub reason : (e : Expected) (d : Dialect) (t : Text) (m n : ℕ) (x y : Reason)
      → IsErrorAt e d t m x → IsErrorAt e d t n y → x ≡ y
  pub span : (t : Text) (offset : ℕ) (kind : Option ℕ) (x y : Span)
      → IsSpanOf t offset kind x → IsSpanOf t offset kind y → x ≡ y

module _ (one : HaveOne) where
  one_place : (e : Expected) (d : Dialect) (t : Text) (p q : Place)
      → IsErrorAt e d t p.offset p.reason → IsSpanOf t p.offset (kind_at t p.offset p.reason) p.span
      → IsErrorAt e d t q.offset q.reason → IsSpanOf t q.offset (kind_at t q.offset q.reason) q.span → p ≡ q
  one_place e d t p q at over at' over' =
      let offset = one.offset e d t p.offset q.offset p.reason q.reason at at' in
      let reason = one.reason e d t p.offset q.offset p.reason q.reason at at' in
      let moved : IsSpanOf t p.offset (kind_at t p.offset p.reason) q.span =
      subst (λ n. IsSpanOf t n (kind_at t n p.reason) q.span) (sym offset)
      (subst (λ r. IsSpanOf t q.offset (kind_at t q.offset r) q.span) (sym reason) over') in
      let span = one.span t p.offset (kind_at t p.offset p.reason) p.span q.span over moved in
      λ i. record { offset = offset i; reason = reason i; span = span i }

  of_invalid : (e : Expected) (d : Dialect) (t : Text) (e' : Expected) (d' : Dialect) (t' : Text) (p : Place) (y : ErrorValue)
      → IsErrorOf e d t (Invalid e' d' t' p) → IsErrorOf e d t y → AreOneError (Invalid e' d' t' p) y
  of_invalid e d t e' d' t' p (Invalid e2 d2 t2 q) a b =
      let kinds = a.0 ∙ sym b.0 in
      let dialects = a.1 ∙ sym b.1 in
      let texts = a.2 ∙ sym b.2 in
      let places = one_place e d t p q a.3 a.4 b.3 b.4 in
      inl (λ i. Invalid (kinds i) (dialects i) (texts i) (places i))
  of_invalid e d t e' d' t' p OutOfMemory a b = inr (inr refl)
  of_invalid e d t e' d' t' p (CannotUpgrade r) a b = absurd b
  of_invalid e d t e' d' t' p (UnknownName n k) a b = absurd b
  of_invalid e d t e' d' t' p DifferentRules a b = absurd b
  of_invalid e d t e' d' t' p (Converted k s) a b = absurd b

  pub one_of : (e : Expected) (d : Dialect) (t : Text) (x y : ErrorValue)
      → IsErrorOf e d t x → IsErrorOf e d t y → AreOneError x y
  one_of e d t (Invalid e' d' t' p) y a b = of_invalid e d t e' d' t' p y a b
  one_of e d t OutOfMemory y a b = inr (inl refl)
  one_of e d t (CannotUpgrade r) y a b = absurd a
  one_of e d t (UnknownName n k) y a b = absurd a
  one_of e d t DifferentRules y a b = absurd a
  one_of e d t (Converted k s) y a b = absurd a

  pub one_of_range : (d : Dialect) (t : Text) (error : RangeError) (x y : ErrorValue)
      → IsRangeError d t error x → IsRangeError d t error y → AreOneError x y
  one_of_range d t range.OutOfMemory x y a b = inl (a ∙ sym b)
  one_of_range d t range.NotARange x y a b = one_of Range d t x y a b
  one_of_range d t range.NumberTooLarge x y a b = one_of Range d t x y a b

  pub one_of_satisfies : (d : Dialect) (v t : Text) (error : SatisfiesError) (x y : ErrorValue)
      → IsSatisfiesError d v t error x → IsSatisfiesError d v t error y → AreOneError x y
  one_of_satisfies d v t satisfies.InvalidVersion x y a b = one_of Version d v x y a b
  one_of_satisfies d v t (satisfies.InvalidRange error) x y a b = one_of_range d t error x y a b

  pub one_of_upgrade : (d : Dialect) (v t : Text) (error : UpgradeError) (x y : ErrorValue)
      → IsUpgradeError d v t error x → IsUpgradeError d v t error y → AreOneError x y
  one_of_upgrade d v t upgrade.InvalidVersion x y a b = one_of Version d v x y a b
  one_of_upgrade d v t (upgrade.InvalidRange error) x y a b = one_of_range d t error x y a b
  one_of_upgrade d v t upgrade.CannotUpgrade x y (inl p) (inl q) = inl (p ∙ sym q)
  one_of_upgrade d v t upgrade.CannotUpgrade x y (inr p) b = inr (inl p)
  one_of_upgrade d v t upgrade.CannotUpgrade x y a (inr q) = inr (inr q)
  one_of_upgrade d v t upgrade.OutOfMemory x y a b = inl (a ∙ sym b)

-- A version of a kind satisfies the ranges of the intervals if and only if it is inside the
-- boundaries.
use Rattle.std.proofs.Common.{arith, ◌≡◌, Bool, true, false, not, ◌&&◌, ◌||◌, cond, List, [], ◌∷◌, refl, sym, ap, ap₂, ◌∙◌}
use Rattle.std.proofs.Common.{Ordering, Less, is_eq, is_ge, is_gt, is_lt}
use Rattle.std.specs.Prelude.{Option, Some, None, IfSome}
use Rattle.std.specs.List.{AllByRecursion, list_any, list_all}
use Rattle.semver_ranges.specs.declared.range.Op.TheVariants.{Lt, Gte, Eq}
use Rattle.semver_texts.specs.Versions.{PlainVersion}
use Rattle.semver_texts.specs.Precedence.{precedence}
use Rattle.semver_texts.specs.Steps.PrecedenceLaws.{precedence_total, precedence-same}
use Rattle.semver_ranges.specs.RewritingTable.{comparator}
use Rattle.semver_ranges.specs.SatisfiedComparators.{meets_comparator, meets_range}
use Rattle.version_sets.specs.Boundaries.{is_inside, IsIncreasing}
use Rattle.version_sets.specs.SetRanges.{Kind, is_lowest, is_same_end, bound_comparators, interval, intervals}
use Rattle.version_sets.proofs.NumberLaws.{from, and_true, at_and_not_above}
use Rattle.version_sets.proofs.SameSets.{equal_is}
use Rattle.version_sets.proofs.BoundaryLaws.{is_inside-below, below-first}
use Rattle.version_sets.proofs.SweepLaws.{by_test}

pub below_is : (o : Ordering) → is_lt o ≡ not (is_ge o)
below_is o = grind arith

is_below : (o : Ordering) → is_ge o ≡ false → o ≡ Less
is_below o e = grind arith

pub or_false : (b : Bool) → (b || false) ≡ b
or_false b = grind arith

pub same_end : (x y : Option PlainVersion) → is_same_end x y ≡ true → x ≡ y
same_end None None e = refl
same_end None (Some w) e = cc
same_end (Some v) None e = cc
same_end (Some v) (Some w) e = ap Some (precedence-same v w (equal_is (precedence v w) e))

-- x says whether a version is at or above the start of an interval, y whether it is at or above the
-- end, and s whether it is in a later interval
turned : (x y s : Bool) → (x ≡ false → s ≡ false) → ((x && not y) || s) ≡ (x && not (y && not s))
turned x y s e = grind arith

-- the next version is right above a version, none is below the lowest, and the versions below the
-- end of an interval are those below the end that is written
pub record IsKind (P : PlainVersion → Type 0) (kind : Kind) : Type 0 where
  pub above : (a v : PlainVersion) → P a → P v → from (kind.next a) v ≡ is_gt (precedence v a)
  pub lowest : (a v : PlainVersion) → P a → P v → is_lowest a ≡ true → is_ge (precedence v a) ≡ true
  pub ends : (a b v : PlainVersion) → P a → P b → P v → is_lt (precedence v (kind.end a b)) ≡ is_lt (precedence v b)

module _ (P : PlainVersion → Type 0) (kind : Kind) (k : IsKind P kind) (v : PlainVersion) (pv : P v) where
  bounds_meet : (a : PlainVersion) (to : Option PlainVersion) → P a → IfSome to P
      → list_all (meets_comparator v) (bound_comparators kind.end a to) ≡ (is_ge (precedence v a) && not (from to v))
  bounds_meet a None pa pb = refl
  bounds_meet a (Some b) pa pb =
      let c = comparator Lt (kind.end a b) in
      let below = and_true (is_lt (precedence v (kind.end a b))) ∙ k.ends a b v pa pb pv ∙ below_is (precedence v b) in
      by_test (is_lowest a)
      (λ e. ap (λ t. list_all (meets_comparator v) (cond t (c ∷ []) (comparator Gte a ∷ c ∷ []))) e
      ∙ below ∙ sym (ap (λ g. g && not (is_ge (precedence v b))) (k.lowest a v pa pv e)))
      (λ e. ap (λ t. list_all (meets_comparator v) (cond t (c ∷ []) (comparator Gte a ∷ c ∷ []))) e
      ∙ ap (λ t. is_ge (precedence v a) && t) below)

  interval_meets : (a : PlainVersion) (to : Option PlainVersion) → P a → IfSome to P
      → list_all (meets_comparator v) (interval kind a to) ≡ (is_ge (precedence v a) && not (from to v))
  interval_meets a to pa pb =
      by_test (is_same_end to (kind.next a))
      (λ e. ap (λ t. list_all (meets_comparator v) (cond t (comparator Eq a ∷ []) (bound_comparators kind.end a to))) e
      ∙ and_true (is_eq (precedence v a)) ∙ sym (at_and_not_above (precedence v a))
      ∙ ap (λ t. is_ge (precedence v a) && not t) (sym (k.above a v pa pv) ∙ ap (λ t. from t v) (sym (same_end to (kind.next a) e))))
      (λ e. ap (λ t. list_all (meets_comparator v) (cond t (comparator Eq a ∷ []) (bound_comparators kind.end a to))) e ∙ bounds_meet a to pa pb)

  pub intervals_meet : (xs : List PlainVersion) → IsIncreasing precedence xs → AllByRecursion P xs
      → list_any (meets_range v) (intervals kind xs) ≡ is_inside precedence xs v
  intervals_meet [] s p = refl
  intervals_meet (a ∷ []) s p = or_false _ ∙ interval_meets a None p.0 tt
  intervals_meet (a ∷ b ∷ xs) s p =
      ap₂ (λ t u. t || u) (interval_meets a (Some b) p.0 p.1.0) (intervals_meet xs s.1.1 p.1.1)
      ∙ turned (is_ge (precedence v a)) (is_ge (precedence v b)) (is_inside precedence xs v) (λ l.
      let below = below-first precedence precedence_total v a (b ∷ xs) (is_below (precedence v a) l) s.0 in
      is_inside-below precedence v xs (below-first precedence precedence_total v b xs below s.1.0))

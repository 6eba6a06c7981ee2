-- The boundaries of ascending spans increase, and an element is inside them if and only if it is in
-- some span.
use Rattle.std.proofs.Common.{arith, ◌≡◌, Bool, true, false, ◌&&◌, ◌||◌, cond, List, [], ◌∷◌, ◌++◌, refl, sym, ap, ◌∙◌, subst}
use Rattle.std.proofs.Common.{map, add-one, get_or, suc, Bor}
use Rattle.std.proofs.lemmas.Fn.{always_returns_same}
use Rattle.std.proofs.lemmas.List.Sorted.{list_any-IsPermutation, IsPermutation-map}
use Rattle.std.specs.Cmp.{IsTotalOrder}
use Rattle.std.specs.Fn.{Called, ComparesAs}
use Rattle.std.specs.List.{AllByRecursion}
use Rattle.std.specs.List.Sorted.{IsPermutation, IsSortedBy}
use Rattle.std.specs.Ordering.{is_ge, is_lt}
use Rattle.std.specs.Prelude.{Option, Some, None, option_to_list}
use Rattle.std.specs.declared.cmp.Ordering.{Ordering}
use Rattle.std.specs.declared.cmp.Ordering.TheVariants.{Less}
use Rattle.semver_texts.specs.Precedence.{precedence}
use Rattle.semver_texts.specs.Steps.PrecedenceLaws.{precedence_total}
use Rattle.semver_texts.specs.Versions.{PlainVersion}
use Rattle.version_sets.specs.VersionSets.{AreBoundaries}
use Rattle.version_sets.specs.Steps.Spans.{SpanValue, reached, is_between, is_in, IsSpan, later, earlier, is_below, span_boundaries}
use Rattle.version_sets.specs.Steps.Spans.{met, joined, all_joined, all_ascend, some_empty, in_some, IsAscending}
use Rattle.version_sets.specs.Steps.SpanViews.{span_value}
use Rattle.version_sets.specs.Boundaries.{is_inside, IsBelowFirst, IsIncreasing}
use Rattle.version_sets.specs.declared.spans.Span.{Span}
use Rattle.version_sets.proofs.BoundaryLaws.{is_inside-below}

module _ {T : Type 0} (cmp : T → T → Ordering) (o : IsTotalOrder cmp) where
  -- an element below a is below b if b isn't below a
  not_on : (v a b : T) → is_lt (cmp b a) ≡ false → is_ge (cmp v a) ≡ false → is_ge (cmp v b) ≡ false
  not_on v a b n e = grind (arith, o.antisymm, o.trans, o.congr)

  turned : (a b : T) → is_ge (cmp a b) ≡ false → is_lt (cmp b a) ≡ false
  turned a b e = grind (arith, o.antisymm)

  below : (a b : T) → is_lt (cmp a b) ≡ true → is_lt (cmp b a) ≡ false
  below a b e = grind (arith, o.antisymm)

  pub reached-later : (a b : Option T) (v : T) → reached cmp (later cmp a b) v ≡ (reached cmp a v && reached cmp b v)
  reached-later a b v = grind (arith, not_on, turned)

  pub reached-earlier : (a b : Option T) (v : T) → reached cmp (earlier cmp a b) v ≡ (reached cmp a v || reached cmp b v)
  reached-earlier a b v = grind (arith, not_on, below)

  pub between-both : (f t a b : Option T) (v : T)
      → is_between cmp (later cmp f a) (earlier cmp t b) v ≡ (is_between cmp f t v && is_between cmp a b v)
  between-both f t a b v = grind (arith, reached-later, reached-earlier)

  -- a span whose end isn't above its beginning is empty
  pub between-none : (a b v : T) → is_ge (cmp a b) ≡ true → is_between cmp (Some a) (Some b) v ≡ false
  between-none a b v e = grind (arith, not_on)

  -- two cases: a gap before the next span, or none
  by_gap : (P : List T → Type 0) (s x : SpanValue T) (xs : List (SpanValue T))
      → (is_below cmp s.to x.from ≡ true → P (span_boundaries cmp s ++ joined cmp x xs))
      → (is_below cmp s.to x.from ≡ false → P (joined cmp (met cmp s x) xs)) → P (joined cmp s (x ∷ xs))
  by_gap P s x xs = at (is_below cmp s.to x.from)
    where
      at : (b : Bool) → (b ≡ true → P (span_boundaries cmp s ++ joined cmp x xs)) → (b ≡ false → P (joined cmp (met cmp s x) xs))
          → P (cond b (span_boundaries cmp s ++ joined cmp x xs) (joined cmp (met cmp s x) xs))
      at true f g = f refl
      at false f g = g refl

  -- an element below a span is below the first boundary of that span and those after it
  first-joined : (s : SpanValue T) (xs : List (SpanValue T)) (v : T) → cmp v s.from ≡ Less → IsBelowFirst cmp v (joined cmp s xs)
  first-joined s [] v l = l
  first-joined s (x ∷ xs) v l = by_gap (IsBelowFirst cmp v) s x xs (λ e. l) (λ e. first-joined (met cmp s x) xs v l)

  met-is : (s x : SpanValue T) → IsSpan cmp s → IsSpan cmp (met cmp s x)
  met-is s x is = grind (arith, reached-later)

  ascend : (a b : T) (xs : List (SpanValue T)) → is_lt (cmp b a) ≡ false → IsAscending cmp b xs → IsAscending cmp a xs
  ascend a b [] n up = up
  ascend a b (x ∷ xs) n up = (grind (arith, o.antisymm, o.trans, o.congr), up.1)

  module _ (v : T) where
    alone : (from : T) (to : Option T) → is_inside cmp (from ∷ option_to_list to) v ≡ is_between cmp (Some from) to v
    alone from to = grind arith

    -- an element is inside the boundaries of a span and others after it if and only if it is in the
    -- span or inside the others
    apart : (from b : T) (to : Option T) (ys : List T) → reached cmp to from ≡ false → is_below cmp to b ≡ true
        → (cmp v b ≡ Less → is_inside cmp ys v ≡ false)
        → is_inside cmp (from ∷ option_to_list to ++ ys) v ≡ (is_between cmp (Some from) to v || is_inside cmp ys v)
    apart from b None ys is gap after = grind arith
    apart from b (Some t) ys is gap after = grind (arith, o.antisymm, o.trans, o.congr)

    -- an element is in the union of two spans that meet if and only if it is in one of them
    meet : (s x : SpanValue T) → is_below cmp s.to x.from ≡ false → is_lt (cmp x.from s.from) ≡ false
        → is_in cmp (met cmp s x) v ≡ (is_in cmp s v || is_in cmp x v)
    meet s x e up = grind (arith, reached-later, not_on)

    -- an element is inside the boundaries if and only if it is in some of the spans
    pub joined-contains : (s : SpanValue T) (xs : List (SpanValue T)) → IsSpan cmp s → some_empty cmp xs ≡ false → IsAscending cmp s.from xs
        → is_inside cmp (joined cmp s xs) v ≡ (is_in cmp s v || in_some cmp xs v)
    joined-contains s [] is all up = grind (arith, alone)
    joined-contains s (x ∷ xs) is all up =
        let rest : some_empty cmp xs ≡ false = grind arith in
        let own : IsSpan cmp x = grind arith in
        let gap = apart s.from x.from s.to (joined cmp x xs) is in
        let after = λ (l : cmp v x.from ≡ Less). is_inside-below cmp v (joined cmp x xs) (first-joined x xs v l) in
        let one = joined-contains x xs own rest up.1 in
        let two = joined-contains (met cmp s x) xs (met-is s x is) rest (ascend s.from x.from xs up.0 up.1) in
        by_gap (λ ys. is_inside cmp ys v ≡ (is_in cmp s v || in_some cmp (x ∷ xs) v)) s x xs
        (λ e. gap e after ∙ ap (λ b. is_in cmp s v || b) one)
        (λ e. two ∙ grind (arith, meet s x e up.0))

  alone-rise : (a : T) (to : Option T) → reached cmp to a ≡ false → IsIncreasing cmp (a ∷ option_to_list to)
  alone-rise a None is = (tt, tt)
  alone-rise a (Some t) is = (grind arith, (tt, tt))

  apart-rise : (a b : T) (to : Option T) (ys : List T) → reached cmp to a ≡ false → is_below cmp to b ≡ true
      → ((w : T) → cmp w b ≡ Less → IsBelowFirst cmp w ys) → IsIncreasing cmp ys → IsIncreasing cmp (a ∷ option_to_list to ++ ys)
  apart-rise a b None ys is gap first rise = absurd (grind arith)
  apart-rise a b (Some t) ys is gap first rise = (grind arith, (first t (grind arith), rise))

  -- the boundaries increase
  pub joined-rise : (s : SpanValue T) (xs : List (SpanValue T)) → IsSpan cmp s → some_empty cmp xs ≡ false → IsAscending cmp s.from xs
      → IsIncreasing cmp (joined cmp s xs)
  joined-rise s [] is all up = alone-rise s.from s.to is
  joined-rise s (x ∷ xs) is all up =
      let rest : some_empty cmp xs ≡ false = grind arith in
      by_gap (IsIncreasing cmp) s x xs
      (λ e. apart-rise s.from x.from s.to (joined cmp x xs) is e (first-joined x xs) (joined-rise x xs (grind arith) rest up.1))
      (λ e. joined-rise (met cmp s x) xs (met-is s x is) rest (ascend s.from x.from xs up.0 up.1))

-- ys are boundaries of the kind P, and a version is inside them if and only if it is in some of the
-- spans xs
pub record AreOf (P : PlainVersion → Type 0) (xs : List (SpanValue PlainVersion)) (ys : List PlainVersion) : Type 0 where
  pub are_boundaries : AreBoundaries P ys
  pub turn : (v : PlainVersion) → is_inside precedence ys v ≡ in_some precedence xs v

are_of : (P : PlainVersion → Type 0) (xs : List (SpanValue PlainVersion)) (ys : List PlainVersion)
    → ys ≡ all_joined precedence xs → AllByRecursion P ys → some_empty precedence xs ≡ false → all_ascend precedence xs → AreOf P xs ys
are_of P [] ys is kind all up = record {
  are_boundaries = record { increase = subst (IsIncreasing precedence) (sym is) tt; are_of_kind = kind };
  turn = λ v. ap (λ ys. is_inside precedence ys v) is;
}
are_of P (x ∷ xs) ys is kind all up =
    let own : IsSpan precedence x = grind arith in
    let rest : some_empty precedence xs ≡ false = grind arith in
    record {
      are_boundaries = record {
        increase = subst (IsIncreasing precedence) (sym is) (joined-rise precedence precedence_total x xs own rest up);
        are_of_kind = kind;
      };
      turn = λ v. ap (λ ys. is_inside precedence ys v) is ∙ joined-contains precedence precedence_total v x xs own rest up;
    }

-- the boundaries of one span
pub are_of_one : (P : PlainVersion → Type 0) (x : SpanValue PlainVersion) (ys : List PlainVersion) → IsSpan precedence x
    → ys ≡ span_boundaries precedence x → AllByRecursion P ys → AreOf P (x ∷ []) ys
are_of_one P x ys e is kind = are_of P (x ∷ []) ys is kind (grind arith) tt

module _ {L : Type 0} (place : L → PlainVersion) where
  abbrev pub begins_below : Span L → Span L → Bool
  begins_below x y = is_lt (precedence (place x.from) (place y.from))

  -- the closure that sorts spans compares them by where they begin
  pub compares : {F : Type 0} {g : _} {f : F}
      → ((a : Bor (Span L) × (Bor (Span L) × Unit {0})) (r : Ordering) (f' : F) → Called g f a r f'
      → (r ≡ precedence (place a.0.now.from) (place a.1.0.now.from)) × (f' ≡ f)) → ComparesAs g begins_below f
  compares {g = g} {f = f} h =
      always_returns_same g (λ a r. is_lt r ≡ begins_below a.0.now a.1.0.now) f (λ a r f' k. (ap is_lt (h a r f' k).0, (h a r f' k).1))

  ascending : (xs : List (Span L)) → IsSortedBy begins_below xs → all_ascend precedence (map (span_value place) xs)
  ascending [] up = tt
  ascending (x ∷ []) up = tt
  ascending (x ∷ y ∷ xs) up = (
    up 0 x (omega arith) (omega arith),
    ascending (y ∷ xs) (λ k d l h.
        ap (λ n. begins_below (get_or (y ∷ xs) n d) (get_or (y ∷ xs) k d)) (add-one k)
        ∙ ap (λ n. begins_below (get_or (x ∷ y ∷ xs) n d) (get_or (y ∷ xs) k d)) (sym (add-one (suc k)))
        ∙ up (suc k) d (omega arith) (omega arith)),
  )

  -- the boundaries of spans that were sorted
  pub are_of_sorted : (P : PlainVersion → Type 0) (xs sorted : List (Span L)) → IsPermutation xs sorted → IsSortedBy begins_below sorted
      → some_empty precedence (map (span_value place) xs) ≡ false
      → (ys : List PlainVersion) → AllByRecursion P ys × (ys ≡ all_joined precedence (map (span_value place) sorted))
      → AreOf P (map (span_value place) xs) ys
  are_of_sorted P xs sorted moved up none ys is =
      let seen = span_value place in
      let moves = IsPermutation-map seen xs sorted moved in
      let of = are_of P (map seen sorted) ys is.1 is.0 (sym (list_any-IsPermutation _ _ _ moves) ∙ none) (ascending sorted up) in
      record { are_boundaries = of.are_boundaries; turn = λ v. of.turn v ∙ sym (list_any-IsPermutation (λ x. is_in precedence x v) _ _ moves) }

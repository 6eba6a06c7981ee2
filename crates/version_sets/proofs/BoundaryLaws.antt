-- Lists of boundaries: an element below the first is outside, and two lists with the same elements
-- inside are equal.
use Rattle.std.proofs.Common.{arith, ◌≡◌, Bool, true, false, not, List, [], ◌∷◌, refl, sym, ap, ap₂, ◌∙◌, subst, true≢false}
use Rattle.std.specs.List.{AllByRecursion}
use Rattle.std.specs.Cmp.{IsTotalOrder, tied_itself}
use Rattle.std.specs.FinMap.{IsAntisymmetric}
use Rattle.std.specs.Ordering.{is_ge, ordering_reverse}
use Rattle.std.specs.declared.cmp.Ordering.{Ordering}
use Rattle.std.specs.declared.cmp.Ordering.TheVariants.{Less, Equal, Greater}
use Rattle.version_sets.specs.Boundaries.{is_inside, IsBelowFirst, IsIncreasing}

not_once : (a b : Bool) → not a ≡ not b → a ≡ b
not_once a b e = grind arith

-- the three results of a comparison, each with its equation
pub by_order : (r : Ordering) {G : Type 0} → (r ≡ Less → G) → (r ≡ Equal → G) → (r ≡ Greater → G) → G
by_order Less f g h = f refl
by_order Equal f g h = g refl
by_order Greater f g h = h refl

-- two cases of a comparison: below, and at or above
pub by_place : (r : Ordering) {G : Type 0} → (r ≡ Less → G) → (is_ge r ≡ true → G) → G
by_place Less f g = f refl
by_place Equal f g = g refl
by_place Greater f g = g refl

module _ {T : Type 0} (cmp : T → T → Ordering) where
  -- an element below the first boundary is outside
  pub is_inside-below : (v : T) (ys : List T) → IsBelowFirst cmp v ys → is_inside cmp ys v ≡ false
  is_inside-below v ys e = grind arith

  -- an element at or above the first boundary is inside if and only if it is outside the other
  -- boundaries
  pub is_inside-at : (v b : T) (ys : List T) → is_ge (cmp v b) ≡ true → is_inside cmp (b ∷ ys) v ≡ not (is_inside cmp ys v)
  is_inside-at v b ys e = grind arith

  module _ (o : IsTotalOrder cmp) where
    pub turned_below : (x y : T) → cmp x y ≡ Greater → cmp y x ≡ Less
    turned_below x y h = o.antisymm y x ∙ ap ordering_reverse h

    pub below-first : (v b : T) (ys : List T) → cmp v b ≡ Less → IsBelowFirst cmp b ys → IsBelowFirst cmp v ys
    below-first v b [] h k = k
    below-first v b (c ∷ ys) h k = o.trans v b c h k

    -- the first boundary is inside
    pub is_inside-first : (b : T) (ys : List T) → IsBelowFirst cmp b ys → is_inside cmp (b ∷ ys) b ≡ true
    is_inside-first b ys h = is_inside-at b b ys (ap is_ge (tied_itself o b)) ∙ ap not (is_inside-below b ys h)

    -- two lists that have the same first boundary and agree on v also agree on v without that
    -- boundary
    alike_after : (v b : T) (xs ys : List T) → IsBelowFirst cmp b xs → IsBelowFirst cmp b ys
        → is_inside cmp (b ∷ xs) v ≡ is_inside cmp (b ∷ ys) v → is_inside cmp xs v ≡ is_inside cmp ys v
    alike_after v b xs ys s t h =
        by_place (cmp v b) (λ l. is_inside-below v xs (below-first v b xs l s) ∙ sym (is_inside-below v ys (below-first v b ys l t)))
        (λ g. not_once _ _ (sym (is_inside-at v b xs g) ∙ h ∙ is_inside-at v b ys g))

    module _ (same : IsAntisymmetric cmp) (P : T → Type 0) where
      -- increasing lists of elements with P are equal if the same elements with P are inside both
      pub one_list : (xs ys : List T) → IsIncreasing cmp xs → IsIncreasing cmp ys → AllByRecursion P xs → AllByRecursion P ys
          → ((v : T) → P v → is_inside cmp xs v ≡ is_inside cmp ys v) → xs ≡ ys
      one_list [] [] s t p q h = refl
      one_list [] (b ∷ ys) s t p q h = absurd (true≢false (sym (is_inside-first b ys t.0) ∙ sym (h b q.0)))
      one_list (a ∷ xs) [] s t p q h = absurd (true≢false (sym (is_inside-first a xs s.0) ∙ h a p.0))
      one_list (a ∷ xs) (b ∷ ys) s t p q h =
          by_order (cmp a b)
          (λ l. absurd (true≢false (sym (is_inside-first a xs s.0) ∙ h a p.0 ∙ is_inside-below a (b ∷ ys) l)))
          (λ e. let is : a ≡ b = same a b e in
          let t2 = subst (λ w. IsBelowFirst cmp w ys) (sym is) t.0 in
          ap₂ (λ w ws. w ∷ ws) is (one_list xs ys s.1 t.1 p.1 q.1 (λ v pv.
          alike_after v a xs ys s.0 t2 (h v pv ∙ ap (λ w. is_inside cmp (w ∷ ys) v) (sym is)))))
          (λ g. absurd (true≢false (sym (is_inside-first b ys t.0) ∙ sym (h b q.0) ∙ is_inside-below b (a ∷ xs) (turned_below a b g))))

-- The pieces of a sweep over two lists of boundaries say which elements are inside each list, and
-- give the boundaries of a combination.
use Rattle.std.proofs.Common.{arith, ◌≡◌, Bool, true, false, not, cond, List, [], ◌∷◌, map}
use Rattle.std.proofs.Common.{refl, sym, ap, ap₂, ◌∙◌, true≢false, Ordering, Less, Equal, Greater, is_ge}
use Rattle.std.specs.List.{AllByRecursion, list_any}
use Rattle.std.specs.Cmp.{IsTotalOrder, tied_itself, alike_right}
use Rattle.std.specs.Ordering.{match_ordering}
use Rattle.version_sets.specs.Boundaries.{is_inside, IsBelowFirst, IsIncreasing}
use Rattle.version_sets.specs.Steps.Sweeps.{PieceValue, SweepWith, sweep, sweep_alone, sweep_step, held, differ, changes}
use Rattle.version_sets.proofs.BoundaryLaws.{is_inside-below, below-first, turned_below}

differ-false : (x : Bool) → differ x false ≡ x
differ-false x = grind arith

differ-not : (x s : Bool) → differ x (not s) ≡ differ (not x) s
differ-not x s = grind arith

by_cond : {X : Type 0} (Q : X → Type 0) (b : Bool) (x y : X) → (b ≡ true → Q x) → (b ≡ false → Q y) → Q (cond b x y)
by_cond Q true x y f g = f refl
by_cond Q false x y f g = g refl

pub by_test : (b : Bool) {G : Type 0} → (b ≡ true → G) → (b ≡ false → G) → G
by_test true f g = f refl
by_test false f g = g refl

abbrev pub froms : {T : Type 0} → List (PieceValue T) → List T
froms = map (λ p. p.from)

module _ {T : Type 0} (cmp : T → T → Ordering) (o : IsTotalOrder cmp) (P : T → Type 0) where
  -- ---- elements below the first boundary

  differ-below : (x : Bool) (v : T) (ys : List T) → IsBelowFirst cmp v ys → differ x (is_inside cmp ys v) ≡ x
  differ-below x v ys h = ap (differ x) (is_inside-below cmp v ys h) ∙ differ-false x

  held-below : (f : Bool → Bool → Bool) (k : Bool) (ps : List (PieceValue T)) (v : T) → IsBelowFirst cmp v (froms ps)
      → held cmp f k ps v ≡ k
  held-below f k [] v h = refl
  held-below f k (p ∷ ps) v h = ap (λ r. cond (is_ge r) (held cmp f (f p.in_first p.in_second) ps v) k) h

  -- ---- the pieces of two lists

  pub record IsSweep (x y : Bool) (xs ys : List T) (ps : List (PieceValue T)) : Type 0 where
    pub holds : (f : Bool → Bool → Bool) (v : T)
        → held cmp f (f x y) ps v ≡ f (differ x (is_inside cmp xs v)) (differ y (is_inside cmp ys v))
    pub starts : (v : T) → IsBelowFirst cmp v xs → IsBelowFirst cmp v ys → IsBelowFirst cmp v (froms ps)
    pub rises : IsIncreasing cmp xs → IsIncreasing cmp ys → IsIncreasing cmp (froms ps)
    pub each : AllByRecursion P xs → AllByRecursion P ys → AllByRecursion P (froms ps)

  first_turns : (x y : Bool) (a : T) (xs ys : List T) (ps : List (PieceValue T)) → IsBelowFirst cmp a ys → IsSweep (not x) y xs ys ps
      → IsSweep x y (a ∷ xs) ys (record { from = a; in_first = not x; in_second = y } ∷ ps)
  first_turns x y a xs ys ps h w = record {
    holds = λ f v.
        let after = λ (l : cmp v a ≡ Less). differ-below y v ys (below-first cmp o v a ys l h) in
        grind (arith, w.holds f v, after, differ-false x, differ-not x (is_inside cmp xs v));
    starts = λ v s t. s;
    rises = λ s t. (w.starts a s.0 h, w.rises s.1 t);
    each = λ p q. (p.0, w.each p.1 q);
  }

  second_turns : (x y : Bool) (b : T) (xs ys : List T) (ps : List (PieceValue T)) → IsBelowFirst cmp b xs → IsSweep x (not y) xs ys ps
      → IsSweep x y xs (b ∷ ys) (record { from = b; in_first = x; in_second = not y } ∷ ps)
  second_turns x y b xs ys ps h w = record {
    holds = λ f v.
        let after = λ (l : cmp v b ≡ Less). differ-below x v xs (below-first cmp o v b xs l h) in
        grind (arith, w.holds f v, after, differ-false y, differ-not y (is_inside cmp ys v));
    starts = λ v s t. t;
    rises = λ s t. (w.starts b h t.0, w.rises s t.1);
    each = λ p q. (q.0, w.each p q.1);
  }

  both_turn : (x y : Bool) (a b : T) (xs ys : List T) (ps : List (PieceValue T)) → cmp a b ≡ Equal → IsSweep (not x) (not y) xs ys ps
      → IsSweep x y (a ∷ xs) (b ∷ ys) (record { from = a; in_first = not x; in_second = not y } ∷ ps)
  both_turn x y a b xs ys ps e w = record {
    holds = λ f v. grind (arith, w.holds f v, alike_right o a b v e);
    starts = λ v s t. s;
    rises = λ s t. (w.starts a s.0 (tied_below ys t.0), w.rises s.1 t.1);
    each = λ p q. (p.0, w.each p.1 q.1);
  } where
    tied_below : (zs : List T) → IsBelowFirst cmp b zs → IsBelowFirst cmp a zs
    tied_below [] h = h
    tied_below (z ∷ zs) h = o.congr a b z e ∙ h

  sweep_alone-is : (x y : Bool) (ys : List T) → IsSweep x y [] ys (sweep_alone x y ys)
  sweep_alone-is x y [] = record {
    holds = λ f v. sym (ap₂ f (differ-false x) (differ-false y));
    starts = λ v s t. t;
    rises = λ s t. t;
    each = λ p q. q;
  }
  sweep_alone-is x y (b ∷ ys) = second_turns x y b [] ys (sweep_alone x (not y) ys) tt (sweep_alone-is x (not y) ys)

  module _ (a : T) (xs : List T) (after : SweepWith T) (is : (x y : Bool) (ys : List T) → IsSweep x y xs ys (after x y ys)) where
    sweep_step-by : (x y : Bool) (b : T) (ys : List T) (r : Ordering) → cmp a b ≡ r
        → IsSweep x (not y) (a ∷ xs) ys (sweep_step cmp a after x (not y) ys)
        → IsSweep x y (a ∷ xs) (b ∷ ys)
        (match_ordering r (record { from = a; in_first = not x; in_second = y } ∷ after (not x) y (b ∷ ys))
        (record { from = a; in_first = not x; in_second = not y } ∷ after (not x) (not y) ys)
        (record { from = b; in_first = x; in_second = not y } ∷ sweep_step cmp a after x (not y) ys))
    sweep_step-by x y b ys Less e w = first_turns x y a xs (b ∷ ys) (after (not x) y (b ∷ ys)) e (is (not x) y (b ∷ ys))
    sweep_step-by x y b ys Equal e w = both_turn x y a b xs ys (after (not x) (not y) ys) e (is (not x) (not y) ys)
    sweep_step-by x y b ys Greater e w =
        second_turns x y b (a ∷ xs) ys (sweep_step cmp a after x (not y) ys) (turned_below cmp o a b e) w

    sweep_step-is : (x y : Bool) (ys : List T) → IsSweep x y (a ∷ xs) ys (sweep_step cmp a after x y ys)
    sweep_step-is x y [] = first_turns x y a xs [] (after (not x) y []) tt (is (not x) y [])
    sweep_step-is x y (b ∷ ys) = sweep_step-by x y b ys (cmp a b) refl (sweep_step-is x (not y) ys)

  pub sweep-is : (xs : List T) (x y : Bool) (ys : List T) → IsSweep x y xs ys (sweep cmp xs x y ys)
  sweep-is [] x y ys = sweep_alone-is x y ys
  sweep-is (a ∷ xs) x y ys = sweep_step-is a xs (sweep cmp xs) (sweep-is xs) x y ys

  -- ---- the boundaries at which a test of the pieces changes

  module _ (f : Bool → Bool → Bool) where
    changes-starts : (v : T) (k : Bool) (ps : List (PieceValue T)) → IsIncreasing cmp (froms ps) → IsBelowFirst cmp v (froms ps)
        → IsBelowFirst cmp v (changes f k ps)
    changes-starts v k [] s h = h
    changes-starts v k (p ∷ ps) s h =
        by_cond (IsBelowFirst cmp v) (differ k (f p.in_first p.in_second)) _ _ (λ e. h)
        (λ e. changes-starts v k ps s.1 (below-first cmp o v p.from (froms ps) h s.0))

    pub changes-rise : (k : Bool) (ps : List (PieceValue T)) → IsIncreasing cmp (froms ps) → IsIncreasing cmp (changes f k ps)
    changes-rise k [] s = s
    changes-rise k (p ∷ ps) s =
        by_cond (IsIncreasing cmp) (differ k (f p.in_first p.in_second)) _ _
        (λ e. (changes-starts p.from (f p.in_first p.in_second) ps s.1 s.0, changes-rise (f p.in_first p.in_second) ps s.1))
        (λ e. changes-rise k ps s.1)

    pub changes-each : (k : Bool) (ps : List (PieceValue T)) → AllByRecursion P (froms ps) → AllByRecursion P (changes f k ps)
    changes-each k [] q = q
    changes-each k (p ∷ ps) q =
        by_cond (AllByRecursion P) (differ k (f p.in_first p.in_second)) _ _
        (λ e. (q.0, changes-each (f p.in_first p.in_second) ps q.1))
        (λ e. changes-each k ps q.1)

    -- an element is inside these boundaries if and only if the test of its piece (`held`) differs
    -- from k
    pub changes-hold : (k : Bool) (ps : List (PieceValue T)) (v : T) → IsIncreasing cmp (froms ps)
        → differ k (is_inside cmp (changes f k ps) v) ≡ held cmp f k ps v
    changes-hold k [] v s = differ-false k
    changes-hold k (p ∷ ps) v s =
        let j = f p.in_first p.in_second in
        let after = λ (l : cmp v p.from ≡ Less).
        is_inside-below cmp v (changes f k ps) (changes-starts v k ps s.1 (below-first cmp o v p.from (froms ps) l s.0)) in
        grind (arith, after, changes-hold j ps v s.1, changes-hold k ps v s.1)

    -- ---- whether some piece passes a test

    abbrev pub some_passes : List (PieceValue T) → Bool
    some_passes = list_any (λ p. f p.in_first p.in_second)

    -- if some piece passes, the test holds at some element
    pub some_held : (k : Bool) (ps : List (PieceValue T)) → IsIncreasing cmp (froms ps) → AllByRecursion P (froms ps)
        → some_passes ps ≡ true → (v : T) × P v × (held cmp f k ps v ≡ true)
    some_held k [] s q e = absurd (true≢false (sym e))
    some_held k (p ∷ ps) s q e =
        let j = f p.in_first p.in_second in
        by_test j
        (λ t. (p.from, q.0, grind (arith, tied_itself o p.from, held-below f j ps p.from s.0)))
        (λ t.
        let later = some_held j ps s.1 q.1 (grind arith) in
        let below = λ (l : cmp later.0 p.from ≡ Less). held-below f j ps later.0 (below-first cmp o later.0 p.from (froms ps) l s.0) in
        (later.0, later.1, grind (arith, later.2, below)))

    -- if the test holds at some element, some piece passes
    pub held_some : (ps : List (PieceValue T)) (v : T) → held cmp f false ps v ≡ true → some_passes ps ≡ true
    held_some [] v e = absurd (true≢false (sym e))
    held_some (p ∷ ps) v e = grind (arith, held_some ps v)

-- Two results that satisfy the clauses of one call count as the same (`AreOne`).
use Rattle.std.proofs.Common.{IfOk, ◌≡◌, ◌↔◌, Option, Some, None, refl, sym, ap, subst, ◌∙◌, inl, inr, Result, Ok, Err, alloc_error}
use Rattle.std.specs.declared.alloc.AllocError.{AllocError}
use Rattle.semver_parser.specs.declared.RangeError.{RangeError}
use Rattle.semver_parser.specs.declared.RangeError.TheVariants.{NotARange, NumberTooLarge, OutOfMemory}
use Rattle.semver_parser.specs.RangeTexts.{Refuses}
use Rattle.result_laws.specs.OneResult.{AreOne, itself, seen}

-- a clause about the value of a result holds for that value
pub of_ok : {A E : Type 0} (P : A → Type 0) {r : Result A E} {a : A} → r ≡ Ok a → IfOk r P → P a
of_ok P is h = subst (λ r. IfOk r P) is h

-- two results that follow `Refuses` for the same text count as the same if their values have equal
-- views whenever the text fits
pub one : {A V T L F : Type 0} (view : A → V) (r s : Result A RangeError) → Refuses T L F r → Refuses T L F s
    → ((a b : A) → r ≡ Ok a → s ≡ Ok b → F → view a ≡ view b) → AreOne OutOfMemory view r s
one view (Ok a) (Ok b) p q h = inl (ap Ok (h a b refl refl p.accepted))
one view (Ok a) (Err OutOfMemory) p q h = inr (inr (a, refl, refl))
one view (Err OutOfMemory) (Ok b) p q h = inr (inl (b, refl, refl))
one view (Err OutOfMemory) (Err OutOfMemory) p q h = inl refl
one view (Err NotARange) s p q h = inl (ap (seen view) (sym (q.not_a_range.1 (p.not_a_range.0 refl))))
one view (Err NumberTooLarge) s p q h = inl (ap (seen view) (sym (q.too_large.1 (p.too_large.0 refl))))
one view r (Err NotARange) p q h = inl (ap (seen view) (p.not_a_range.1 (q.not_a_range.0 refl)))
one view r (Err NumberTooLarge) p q h = inl (ap (seen view) (p.too_large.1 (q.too_large.0 refl)))

-- two results that count as the same are equal if neither is out of memory
pub with_memory : {A : Type 0} (r s : Result A RangeError) → (r ≡ Err OutOfMemory → ⊥) → (s ≡ Err OutOfMemory → ⊥)
    → AreOne OutOfMemory itself r s → r ≡ s
with_memory (Ok a) (Ok b) p q (inl e) = e
with_memory (Ok a) (Err f) p q (inl e) = e
with_memory (Err e) (Ok b) p q (inl e') = e'
with_memory (Err e) (Err f) p q (inl e') = e'
with_memory r s p q (inr (inl (b, is, is'))) = absurd (p is)
with_memory r s p q (inr (inr (a, is, is'))) = absurd (q is')

-- two such results count as the same if the view of each value is `rewritten tree` for every tree
-- that spells the text
pub one_rewritten : {A V Tree T L : Type 0} {Spells Fits : Tree → Type 0} (view : A → V) (rewritten : Tree → V)
    (r s : Result A RangeError) → Refuses T L ((tree : Tree) × Spells tree × Fits tree) r
    → Refuses T L ((tree : Tree) × Spells tree × Fits tree) s → IfOk r (λ a. (tree : Tree) → Spells tree → view a ≡ rewritten tree)
    → IfOk s (λ a. (tree : Tree) → Spells tree → view a ≡ rewritten tree) → AreOne OutOfMemory view r s
one_rewritten view rewritten r s p q h k =
    one view r s p q (λ a b is is' text. of_ok _ is h text.0 text.1 ∙ sym (of_ok _ is' k text.0 text.1))

-- two results whose only error is out of memory count as the same if their values have equal views
pub one_made : {A V : Type 0} (view : A → V) (r s : Result A AllocError)
    → ((a b : A) → r ≡ Ok a → s ≡ Ok b → view a ≡ view b) → AreOne alloc_error view r s
one_made view (Ok a) (Ok b) h = inl (ap Ok (h a b refl refl))
one_made view (Ok a) (Err e) h = inr (inr (a, refl, refl))
one_made view (Err e) (Ok b) h = inr (inl (b, refl, refl))
one_made view (Err e) (Err f) h = inl refl

-- two options are equal if each contains a value if and only if P holds for it
pub one_found : {A : Type 0} (P : A → Type 0) (x y : Option A) → ((a : A) → (x ≡ Some a) ↔ P a) → ((a : A) → (y ≡ Some a) ↔ P a) → x ≡ y
one_found P (Some a) y f g = sym ((g a).1 ((f a).0 refl))
one_found P x (Some b) f g = (f b).1 ((g b).0 refl)
one_found P None None f g = refl

-- Two options are equal if each contains a value that has a property, or is `None` because no value
-- has it, and at most one value has the property.
use Rattle.std.proofs.Common.{◌≡◌, MatchOption, Option, Some, None, ap, refl}

pub one_option : {A : Type 0} (P : A → Type 0) (a b : Option A) → ((x y : A) → P x → P y → x ≡ y) → MatchOption a (¬ ((x : A) × P x)) P
    → MatchOption b (¬ ((x : A) × P x)) P → a ≡ b
one_option P None None same p q = refl
one_option P None (Some y) same p q = absurd (p (y, q))
one_option P (Some x) None same p q = absurd (q (x, p))
one_option P (Some x) (Some y) same p q = ap Some (same x y p q)

-- Lemmas about the length of a list, and about the value or the error of a result.
use Rattle.std.proofs.Common.{◌≡◌, ◌==◌, ℕ, Bool, List, [], ◌∷◌, map, length}
use Rattle.std.proofs.Common.{arith, IfOk, IfErr, Result, Ok, Err}
use Rattle.std.proofs.lemmas.Bool.Decides.{nat_tests}
use Rattle.semver_texts.specs.Texts.{is_empty}

pub none_left : {X Y : Type 0} (f : X → Y) (xs : List X) (n : ℕ) (r : Bool) → r ≡ (n == 0) → n ≡ length xs → r ≡ is_empty (map f xs)
none_left f [] n r e l = grind (arith, nat_tests)
none_left f (x ∷ xs) n r e l = grind (arith, nat_tests)

pub answered_so : {T E : Type 0} {P : T → Type 0} (Q : T → Type 0) (r : Result T E) → IfOk r P → ((x : T) → P x → Q x) → IfOk r Q
answered_so Q (Ok x) p f = f x p
answered_so Q (Err e) _ f = tt

pub failed_so : {T E : Type 0} {P : E → Type 0} (Q : E → Type 0) (r : Result T E) → IfErr r P → ((x : E) → P x → Q x) → IfErr r Q
failed_so Q (Ok x) _ f = tt
failed_so Q (Err e) p f = f e p

pub on_err : {X E : Type 0} {P : Type 0} (r : Result X E) → P → IfErr r (λ _. P)
on_err (Ok x) p = tt
on_err (Err e) p = p

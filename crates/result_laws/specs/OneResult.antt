-- When two results of a call count as the same.
use Rattle.std.specs.Prelude.{◌≡◌, ◌⊎◌, Result, Ok, Err}

-- the value itself
abbrev pub itself : {A : Type 0} → A → A
itself a = a

-- a result with the view of its value
abbrev pub seen : {A V E : Type 0} → (A → V) → Result A E → Result V E
seen view (Ok a) = Ok (view a)
seen view (Err e) = Err e

-- two results have equal views, or one is a value and the other is out of memory
abbrev pub AreOne : {A V E : Type 0} → E → (A → V) → Result A E → Result A E → Type 0
AreOne {A} out view r s = (seen view r ≡ seen view s)
    ⊎ ((b : A) × (r ≡ Err out) × (s ≡ Ok b))
    ⊎ ((a : A) × (r ≡ Ok a) × (s ≡ Err out))

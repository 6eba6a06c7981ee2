-- Lists of boundaries in any order of their elements: what is at or above the first boundary is
-- inside, what is at or above the second is outside again, and so on.
use Rattle.std.specs.Prelude.{◌≡◌, Bool, false, not, ◌&&◌, List, [], ◌∷◌, ⊤}
use Rattle.std.specs.Ordering.{is_ge}
use Rattle.std.specs.declared.cmp.Ordering.{Ordering}
use Rattle.std.specs.declared.cmp.Ordering.TheVariants.{Less}

-- whether v is at or above an odd number of the boundaries, if each is below the next
abbrev pub is_inside : {T : Type 0} → (T → T → Ordering) → List T → T → Bool
is_inside cmp [] v = false
is_inside cmp (b ∷ ys) v = is_ge (cmp v b) && not (is_inside cmp ys v)

-- v is below the first element of the list, if there is one
abbrev pub IsBelowFirst : {T : Type 0} → (T → T → Ordering) → T → List T → Type 0
IsBelowFirst cmp v [] = ⊤
IsBelowFirst cmp v (b ∷ ys) = cmp v b ≡ Less

-- each element is below the next
abbrev pub IsIncreasing : {T : Type 0} → (T → T → Ordering) → List T → Type 0
IsIncreasing cmp [] = ⊤
IsIncreasing cmp (b ∷ ys) = IsBelowFirst cmp b ys × IsIncreasing cmp ys

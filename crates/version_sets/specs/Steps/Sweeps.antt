-- A means of proof: two lists of boundaries that are swept together, from the lowest to the
-- highest.
use Rattle.std.specs.Prelude.{Bool, true, false, not, if◌then◌else◌, List, [], ◌∷◌}
use Rattle.std.specs.Ordering.{is_ge, match_ordering}
use Rattle.std.specs.declared.cmp.Ordering.{Ordering}

-- a piece, from its boundary up to that of the next piece, and whether it is in the first set and
-- in the second
pub record PieceValue (T : Type 0) : Type 0 where
  pub from : T
  pub in_first : Bool
  pub in_second : Bool

-- the sweep of a list together with any other. The two flags say whether what is below the first
-- piece of the sweep is in the first set and in the second
abbrev pub SweepWith : Type 0 → Type 0
SweepWith T = Bool → Bool → List T → List (PieceValue T)

-- the sweep if the first list has no more boundaries
abbrev pub sweep_alone : {T : Type 0} → SweepWith T
sweep_alone x y [] = []
sweep_alone x y (b ∷ ys) =
    record { from = b; in_first = x; in_second = not y } ∷ sweep_alone x (not y) ys

-- the sweep if the first list has the boundary a, and then those that `after` sweeps
abbrev pub sweep_step : {T : Type 0} → (T → T → Ordering) → T → SweepWith T → SweepWith T
sweep_step cmp a after x y [] =
    record { from = a; in_first = not x; in_second = y } ∷ after (not x) y []
sweep_step cmp a after x y (b ∷ ys) =
    match_ordering (cmp a b)
    (record { from = a; in_first = not x; in_second = y } ∷ after (not x) y (b ∷ ys))
    (record { from = a; in_first = not x; in_second = not y } ∷ after (not x) (not y) ys)
    (record { from = b; in_first = x; in_second = not y }
    ∷ sweep_step cmp a after x (not y) ys)

abbrev pub sweep : {T : Type 0} → (T → T → Ordering) → List T → SweepWith T
sweep cmp [] = sweep_alone
sweep cmp (a ∷ xs) = sweep_step cmp a (sweep cmp xs)

-- what f returns for the last piece at or below v, or k if there is none
abbrev pub held : {T : Type 0} → (T → T → Ordering) → (Bool → Bool → Bool) → Bool
    → List (PieceValue T) → T → Bool
held cmp f k [] v = k
held cmp f k (p ∷ ps) v =
    if is_ge (cmp v p.from) then held cmp f (f p.in_first p.in_second) ps v else k

-- whether two flags differ
abbrev pub differ : Bool → Bool → Bool
differ true b = not b
differ false b = b

-- the boundaries at which what f returns for the pieces changes, starting with k
abbrev pub changes : {T : Type 0} → (Bool → Bool → Bool) → Bool → List (PieceValue T) → List T
changes f k [] = []
changes f k (p ∷ ps) =
    if differ k (f p.in_first p.in_second)
    then (p.from ∷ changes f (f p.in_first p.in_second) ps) else changes f k ps

-- What a call wrote to a writer whose contents are known.
use Rattle.std.specs.Prelude.{◌≡◌, ℕ, List, ◌++◌, Option, Result, MatchResult}
use Rattle.std.specs.Io.KnownBytes.{Appends}

-- the known bytes have grown by a beginning of these bytes
abbrev pub AppendsBeginning : Option (List ℕ) → Option (List ℕ) → List ℕ → Type 0
AppendsBeginning old new bytes =
    (front rest : List ℕ) × (front ++ rest ≡ bytes) × Appends old new front

-- after `Ok`, all of these bytes were written, and after `Err`, a beginning of them
abbrev pub WritesOrBegins : {T E : Type 0} → Option (List ℕ) → Option (List ℕ) → Result T E → List ℕ
    → Type 0
WritesOrBegins old new r bytes =
    MatchResult r (λ _. Appends old new bytes) (λ _. AppendsBeginning old new bytes)

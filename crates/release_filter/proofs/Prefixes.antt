-- The bytes after a prefix.
use Rattle.std.proofs.Common.{Bor, ◌+◌, Option, Some, None, MatchOption, ◌≡◌, ℕ, ◌++◌, arith}
use Rattle.std.proofs.Common.{true, false, List, take, drop, length, eqb}
use Rattle.std.specs.Cmp.Lexicographic.{pointwise, bytes_decides}
use Rattle.std.proofs.Math.Seq.{take-append_seam}
use Rattle.std.proofs.lemmas.List.{take-append-drop}

-- the contract of `strip_prefix`, for lists of bytes
abbrev pub Strips : List ℕ → List ℕ → Option (Bor (List ℕ)) → Type 0
Strips prefix bytes found =
    MatchOption found (pointwise eqb (take (length prefix) bytes) prefix ≡ false)
    (λ x. (pointwise eqb (take (length prefix) bytes) prefix ≡ true) × (x.now ≡ drop (length prefix) bytes)
    × (length x.now + length prefix ≡ length bytes))

-- the result is the bytes after the prefix, or `None` if the bytes don't begin with it
pub after : (prefix bytes : List ℕ) (found : Option (Bor (List ℕ))) → Strips prefix bytes found
    → MatchOption found ((t : List ℕ) → ¬ (bytes ≡ prefix ++ t)) (λ x. bytes ≡ prefix ++ x.now)
after prefix bytes None other = grind (arith, bytes_decides, take-append_seam)
after prefix bytes (Some x) (same, rest, len) = grind (arith, take-append-drop, bytes_decides)

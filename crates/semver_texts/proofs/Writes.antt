-- Lemmas for a loop that writes the rest of a slice, and for several writes one after the other.
use Rattle.std.proofs.Common.{◌≡◌, ℕ, ◌-◌, List, Option, Result, Ok, Err, ◌++◌, length, take, drop, ap, sym, ◌∙◌, append_assoc}
use Rattle.std.proofs.Common.{take-append-drop}
use Rattle.std.proofs.lemmas.List.{take_rest}
use Rattle.std.proofs.KnownBytes.{Appends-trans}
use Rattle.std.proofs.lemmas.Result.{MatchResult-from_err}
use Rattle.std.specs.Result.{IsErr}
use Rattle.std.specs.Io.KnownBytes.{Appends}
use Rattle.semver_texts.specs.Writing.{AppendsBeginning, WritesOrBegins}

-- after a write of the first `n` bytes of the rest, the written bytes and the new rest are all
-- bytes
pub written_more : (done rest bytes : List ℕ) (n : ℕ) → done ++ rest ≡ bytes
    → (done ++ take n rest) ++ take (length rest - n) (drop n rest) ≡ bytes
written_more done rest bytes n whole =
    append_assoc done (take n rest) (take (length rest - n) (drop n rest))
    ∙ ap (λ l. done ++ l) (ap (λ l. take n rest ++ l) (take_rest rest n) ∙ take-append-drop n rest) ∙ whole

-- if a beginning of `xs` was written, so was a beginning of any longer text
pub begins_with : (a b : Option (List ℕ)) (xs ys : List ℕ) → AppendsBeginning a b xs → AppendsBeginning a b (xs ++ ys)
begins_with a b xs ys h = (h.0, h.1 ++ ys, sym (append_assoc h.0 h.1 ys) ∙ ap (λ l. l ++ ys) h.2, h.3)

-- if `xs` was written and then a beginning of `ys`, a beginning of `xs ++ ys` was written
pub begins_then : (a b c : Option (List ℕ)) (xs ys : List ℕ) → Appends a b xs → AppendsBeginning b c ys → AppendsBeginning a c (xs ++ ys)
begins_then a b c xs ys p h = (xs ++ h.0, h.1, append_assoc xs h.0 h.1 ∙ ap (λ l. xs ++ l) h.2, Appends-trans a b c xs h.0 p h.3)

-- after an error, for example at a `?`, it is enough that a beginning was written
pub stops : {T E : Type 0} (a b : Option (List ℕ)) (r : Result T E) (bs : List ℕ) → IsErr r → AppendsBeginning a b bs
    → WritesOrBegins a b r bs
stops a b r bs err h = MatchResult-from_err r (λ _. Appends a b bs) (λ _. AppendsBeginning a b bs) err (λ _. h)

-- `xs` was written, and then a call wrote `ys`, or failed and wrote a beginning of it
pub writes_then : {T E : Type 0} (a b c : Option (List ℕ)) (r : Result T E) (xs ys : List ℕ) → Appends a b xs → WritesOrBegins b c r ys
    → WritesOrBegins a c r (xs ++ ys)
writes_then a b c (Ok x) xs ys p h = Appends-trans a b c xs ys p h
writes_then a b c (Err e) xs ys p h = begins_then a b c xs ys p h

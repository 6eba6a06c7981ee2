use Rattle.std.proofs.Common.{◌≡◌, ◌++◌, [], ◌∷◌, ◌==◌, true, false, length, codes, refl, ap, arith, eqb-true}
use Rattle.std.proofs.Output.{has_written_styled_append, has_written_styled_of_eq}
use Rattle.semver_texts.specs.Texts.{Text}
use Rattle.invalid_strings.specs.Escaping.{marks_below}
use Rattle.semver_errors.specs.ErrorTexts.{carets_below}
use Rattle.semver_errors.proofs.printing.write_carets.Goals as goal

one : (t : Text) → (length t == 0) ≡ true → codes "^" ≡ carets_below t
one [] e = refl
one (b ∷ t) e = absurd (omega (arith, eqb-true (length (b ∷ t)) 0 e))

more : (t : Text) → (length t == 0) ≡ false → marks_below (codes "^") t ≡ carets_below t
more [] e = cc
more (b ∷ t) e = refl

pub returns-then-is_empty : goal.returns-then-is_empty
returns-then-is_empty g c = λ flush ok.
    let before = c.in_ok-write_marks.ensures flush refl in
    let both = has_written_styled_append _ _ _ _ _ _ before (c.write_str.ensures.styled before.flush ok) in
    let empty : (length c.range-part.result.now == 0) ≡ true = cc in
    let is = ap (λ l. marks_below (codes " ") c.range.result.now ++ l) (one c.range-part.result.now empty) in
    rw (c.range.ensures.value, c.range-part.ensures.value) at (has_written_styled_of_eq _ _ _ _ _ is both)

pub returns : goal.returns
returns g c = λ flush ok.
    let before = c.in_ok-write_marks.ensures flush refl in
    let both = has_written_styled_append _ _ _ _ _ _ before (c.write_marks-2.ensures before.flush ok) in
    let some : (length c.range-part.result.now == 0) ≡ false = cc in
    let is = ap (λ l. marks_below (codes " ") c.range.result.now ++ l) (more c.range-part.result.now some) in
    rw (c.range.ensures.value, c.range-part.ensures.value) at (has_written_styled_of_eq _ _ _ _ _ is both)

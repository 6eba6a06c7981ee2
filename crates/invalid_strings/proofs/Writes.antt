-- What a formatter with options has written, and marks below a text.
use Rattle.std.proofs.Common.{◌≡◌, ℕ, zero, suc, ◌+◌, ◌++◌, List, sym, ap, subst, ◌∙◌, arith, append_assoc, append-nil}
use Rattle.std.specs.Fmt.{HasWritten, HasWrittenStyled, IsDefaultSpec, IsPlainFormatter}
use Rattle.std.specs.List.{repeat}
use Rattle.std.specs.declared.fmt.Formatter.{Formatter}

-- a plain formatter stays plain
pub plainly : {W : Type 0} (took : W → List ℕ → W → Type 0) (f : Formatter W) (bs : List ℕ) (g : Formatter W)
    → IsPlainFormatter f → HasWrittenStyled took f bs g → HasWritten took f bs g
plainly took f bs g plain written = record {
  wrote = written.wrote;
  plain = record { bare = subst IsDefaultSpec (sym written.spec) plain.bare; flush = written.flush };
}

pub repeat-add : (m n : ℕ) (t : List ℕ) → repeat (m + n) t ≡ repeat m t ++ repeat n t
repeat-add zero n t = ap (λ k. repeat k t) (omega arith)
repeat-add (suc m) n t =
    let same : suc m + n ≡ suc (m + n) = omega arith in
    ap (λ k. repeat k t) same ∙ ap (λ l. t ++ l) (repeat-add m n t) ∙ sym (append_assoc t (repeat m t) (repeat n t))

pub repeat-more : (n : ℕ) (t : List ℕ) → repeat n t ++ t ≡ repeat (n + 1) t
repeat-more n t = ap (λ l. repeat n t ++ l) (sym (append-nil t)) ∙ sym (repeat-add n 1 t)

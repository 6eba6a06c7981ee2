-- Lemmas for the loops that read parts joined by dots, byte by byte.
use Rattle.std.proofs.Common.{◌≡◌, ℕ, ◌+◌, ◌<◌, Bool, true, false, length, get_or, drop, refl, sym, ap, ◌∙◌, arith, ◌∷◌, ◌++◌}
use Rattle.std.proofs.Common.{subst, append-nil, append_assoc, suc, take, take-append-drop}
use Rattle.std.specs.Prelude.{◌==◌, ◌||◌, MatchOption, Option, Some, None, List, []}
use Rattle.std.specs.Bool.{then_some}
use Rattle.std.specs.Char.{is_ascii_alphanumeric}
use Rattle.std.specs.Borrow.{Bor}
use Rattle.std.specs.List.{All, prefix_len, slice_split}
use Rattle.std.specs.Str.{IsAscii, IsUtf8}
use Rattle.std.proofs.Math.Seq.{take-length, take-suc}
use Rattle.std.proofs.lemmas.Bool.{eqb-true, false_from_ne_true}
use Rattle.std.proofs.lemmas.Bool.Decides.{nat_tests}
use Rattle.std.proofs.lemmas.List.{drop_more}
use Rattle.std.proofs.lemmas.List.Elements.{All-nil, All-cons, All-append}
use Rattle.std.proofs.lemmas.List.Splits.{slice_split_none, slice_split_at}
use Rattle.std.proofs.lemmas.List.Sums.{prefix_len-drop_no}
use Rattle.std.proofs.lemmas.Str.{IsUtf8-from_ascii}
pub use Rattle.semver_texts.specs.Compared.{parts_after}
use Rattle.semver_texts.specs.Texts.{Text, is_dot, is_dotted_byte}
use Rattle.semver_texts.specs.declared.dotted.Hyphens.{Hyphens}
use Rattle.semver_texts.specs.declared.dotted.Hyphens.TheVariants.{Any, BetweenRuns}
use Rattle.semver_texts.specs.Steps.DottedParts.{is_run_byte, runs_stand}
use Rattle.semver_texts.proofs.Lists.{Passes, ascii_from}

-- ---- bytes

other_byte : (hyphens : Hyphens) (b : ℕ) → is_run_byte hyphens b ≡ false → (b == 45 || b == 46) ≡ false → is_dotted_byte b ≡ false
other_byte Any b h m = grind (arith, nat_tests)
other_byte BetweenRuns b h m = grind (arith, nat_tests)

-- a letter or a digit belongs to a run
pub letter_runs : (hyphens : Hyphens) (b : ℕ) → is_ascii_alphanumeric b ≡ true → is_run_byte hyphens b ≡ true
letter_runs Any b h = rw h refl
letter_runs BetweenRuns b h = h

-- a byte that is not a letter, a digit, a hyphen or a dot doesn't belong to a run
pub no_run : (hyphens : Hyphens) (b : ℕ) → is_ascii_alphanumeric b ≡ false → (b == 45 || b == 46) ≡ false → is_run_byte hyphens b ≡ false
no_run Any b h m = grind (arith, nat_tests)
no_run BetweenRuns b h m = h

small_byte : (b : ℕ) → is_dotted_byte b ≡ true → b < 128
small_byte b h = grind (arith, nat_tests)

-- the bytes of parts joined by dots are ASCII, and so valid UTF-8
pub dotted_ascii : (bytes : Text) → Passes is_dotted_byte bytes → IsAscii bytes
dotted_ascii = ascii_from is_dotted_byte small_byte

pub dotted_utf8 : (bytes : Text) → Passes is_dotted_byte bytes → IsUtf8 bytes
dotted_utf8 bytes all = IsUtf8-from_ascii bytes (dotted_ascii bytes all)

-- ---- the state of a loop at an offset

-- the loop's invariant at an offset: every byte before it is a byte of dotted parts, and whether
-- the text begins with separated runs depends only on the rest and on `in_run`
pub record IsRead (hyphens : Hyphens) (bytes : Text) (at : ℕ) (in_run : Bool) : Type 0 where
  pub standing : runs_stand (is_run_byte hyphens) false bytes ≡ runs_stand (is_run_byte hyphens) in_run (drop at bytes)
  pub goes_on : prefix_len is_dotted_byte bytes ≡ at + prefix_len is_dotted_byte (drop at bytes)

-- if a dot or a hyphen doesn't follow a run, the text doesn't begin with separated runs
pub none_read : (hyphens : Hyphens) (bytes : Text) (at : ℕ) → at < length bytes → is_run_byte hyphens (get_or bytes at 0) ≡ false
    → (get_or bytes at 0 == 45 || get_or bytes at 0 == 46) ≡ true → IsRead hyphens bytes at false
    → runs_stand (is_run_byte hyphens) false bytes ≡ false
none_read hyphens bytes at inside other mark w =
    w.standing ∙ ap (runs_stand (is_run_byte hyphens) false) (drop_more bytes at 0 inside) ∙ rw (other, mark) refl

-- the end of the parts: the result is their length if a run is right before it, otherwise `None`
pub at_end : (hyphens : Hyphens) (bytes : Text) (at : ℕ) (in_run : Bool) → prefix_len is_dotted_byte (drop at bytes) ≡ 0
    → runs_stand (is_run_byte hyphens) in_run (drop at bytes) ≡ in_run → IsRead hyphens bytes at in_run
    → MatchOption (then_some in_run at) (runs_stand (is_run_byte hyphens) false bytes ≡ false)
    (λ len. (runs_stand (is_run_byte hyphens) false bytes ≡ true) × (len ≡ prefix_len is_dotted_byte bytes))
at_end hyphens bytes at true ended same w = (w.standing ∙ same, omega (arith, w.goes_on, ended))
at_end hyphens bytes at false ended same w = w.standing ∙ same

pub other_ends : (hyphens : Hyphens) (bytes : Text) (at : ℕ) (in_run : Bool) → at < length bytes
    → is_run_byte hyphens (get_or bytes at 0) ≡ false → (get_or bytes at 0 == 45 || get_or bytes at 0 == 46) ≡ false
    → (prefix_len is_dotted_byte (drop at bytes) ≡ 0) × (runs_stand (is_run_byte hyphens) in_run (drop at bytes) ≡ in_run)
other_ends hyphens bytes at in_run inside other no_mark = (
  prefix_len-drop_no is_dotted_byte bytes at 0 inside (other_byte hyphens (get_or bytes at 0) other no_mark),
  ap (runs_stand (is_run_byte hyphens) in_run) (drop_more bytes at 0 inside) ∙ rw (other, no_mark) refl,
)

-- equal pairs in `Some` have equal components
pub found_same : {X Y : Type 0} {x x' : X} {y y' : Y} → ◌≡◌ {A = Option (X × Y)} (Some (x, y)) (Some (x', y')) → (x ≡ x') × (y ≡ y')
found_same {X = X} {Y = Y} {x = x} {x' = x'} {y = y} {y' = y'} e =
    let same : ◌≡◌ {A = X × Y} (x, y) (x', y') = cc in (ap (λ (p : X × Y). p.0) same, ap (λ (p : X × Y). p.1) same)

-- ---- the rest after a dot

abbrev pub size_after : Option (Bor Text) → ℕ
size_after None = 0
size_after (Some rest) = length rest.now + 1

-- the bytes are the part, or, if there is a rest, the part, a dot and the rest; split at dots, they
-- are the part and the pieces of the rest
abbrev pub IsSplit : Text → Text → Option (Bor Text) → Type 0
IsSplit bytes part after = MatchOption after ((slice_split is_dot bytes ≡ part ∷ []) × (bytes ≡ part))
    (λ after. (slice_split is_dot bytes ≡ part ∷ slice_split is_dot after.now) × (bytes ≡ part ++ 46 ∷ after.now))

pub split_more : (bytes part : Text) (after : Option (Bor Text)) (all cut : List Text) → IsSplit bytes part after
    → all ≡ cut ++ slice_split is_dot bytes → all ≡ (cut ++ part ∷ []) ++ parts_after after
split_more bytes part None all cut h e = e ∙ ap (λ ts. cut ++ ts) h.0 ∙ sym (append-nil (cut ++ part ∷ []))
split_more bytes part (Some after) all cut h e =
    e ∙ ap (λ ts. cut ++ ts) h.0 ∙ sym (append_assoc cut (part ∷ []) (slice_split is_dot after.now))

-- ---- a text up to its first dot

-- the byte is not a dot
abbrev pub IsOther : ℕ → Type 0
IsOther b = is_dot b ≡ false

-- if neither the first `i` bytes nor the next one is a dot, none of the first `i + 1` is
pub others_more : (t : Text) (i : ℕ) → i < length t → ¬ (get_or t i 0 ≡ 46) → All IsOther (take i t) → All IsOther (take (i + 1) t)
others_more t i inside no_dot others =
    let b : ℕ = get_or t i 0 in
    let other : IsOther b = false_from_ne_true (b == 46) (λ h. no_dot (eqb-true b 46 h)) in
    let next : suc i ≡ i + 1 = omega arith in
    let more : take i t ++ b ∷ [] ≡ take (i + 1) t = sym (take-suc t i 0 inside) ∙ ap (λ n. take n t) next in
    subst (All IsOther) more (All-append IsOther (take i t) (b ∷ []) others (All-cons IsOther b [] other (All-nil IsOther)))

-- a text whose first dot is at `i`: its first piece is before the dot, and the others are the
-- pieces of the text after the dot
pub dot_splits : (t : Text) (i : ℕ) → i < length t → get_or t i 0 ≡ 46 → All IsOther (take i t)
    → (slice_split is_dot t ≡ take i t ∷ slice_split is_dot (drop (i + 1) t)) × (t ≡ take i t ++ 46 ∷ drop (i + 1) t)
dot_splits t i inside dot others =
    let after : Text = drop (i + 1) t in
    let whole : t ≡ take i t ++ 46 ∷ after =
    sym (take-append-drop i t) ∙ ap (λ u. take i t ++ u) (drop_more t i 0 inside ∙ ap (λ b. b ∷ after) dot) in (
      ap (slice_split is_dot) whole ∙ slice_split_at is_dot (take i t) 46 after others refl,
      whole,
    )

-- a text without dots is its only piece
pub one_piece : (t : Text) (i : ℕ) → i ≡ length t → All IsOther (take i t) → slice_split is_dot t ≡ t ∷ []
one_piece t i end others =
    slice_split_none is_dot t (subst (All IsOther) (ap (λ n. take n t) end ∙ take-length t) others)

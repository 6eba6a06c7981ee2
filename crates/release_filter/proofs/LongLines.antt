-- If the text of a line is too long for a version, the first bytes of the line determine its verdict.
use Rattle.std.proofs.Common.{◌≡◌, ◌∙◌, ◌++◌, ◌∷◌, ◌≤◌, ◌<◌, ◌+◌, ◌-◌, [], ℕ, Bool, true, false, cond, refl, sym, ap}
use Rattle.std.proofs.Common.{length, length-append, length-take, take, min, arith}
use Rattle.std.proofs.lemmas.Grind.{common_steps}
use Rattle.std.proofs.Math.Seq.{take-append-add}
use Rattle.std.proofs.lemmas.List.{take-append-le, take-take}
use Rattle.std.specs.Io.BufRead.{strip_last}
use Rattle.semver_texts.specs.Texts.{Text, is_empty}
use Rattle.release_filter.specs.LineTexts.{after_mark, line_text, longest_front, longest_text}
use Rattle.release_filter.specs.Verdicts.{IsVerdictOn, LineRule, Verdict, reported}
use Rattle.release_filter.specs.Verdicts.{kept, dropped, empty, invalid}
use Rattle.release_filter.specs.declared.line_texts.LineEnd.{LineEnd}
use Rattle.release_filter.specs.declared.line_texts.LineEnd.TheVariants.{LineFeed, ZeroByte}

pub take_min : (n : ℕ) (xs : Text) → take (min (length xs) n) xs ≡ take n xs
take_min n xs = grind (arith, common_steps)

pub held_front : (n : ℕ) (a b : Text) → length a ≤ n → a ++ take (min (length b) (n - length a)) b ≡ take n (a ++ b)
held_front n a b within =
    ap (λ l. a ++ l) (take_min (n - length a) b) ∙ sym (take-append-add a b (n - length a))
    ∙ ap (λ k. take k (a ++ b)) (omega arith)

pub take_all : (n : ℕ) (xs : Text) → length xs ≤ n → take n xs ≡ xs
take_all n xs few = grind (arith, common_steps)

-- ---- without the bytes that end a line

strip_length : (b : ℕ) (xs : Text) → length xs ≤ length (strip_last b xs) + 1
strip_length b xs = by_end _
  where
    by_end : (is : Bool) → length xs ≤ length (cond is (take (length xs - 1) xs) xs) + 1
    by_end true = omega (arith, length-take (length xs - 1) xs)
    by_end false = omega arith

strip_front : (b n : ℕ) (xs : Text) → n < length xs → take n (strip_last b xs) ≡ take n xs
strip_front b n xs within = by_end _
  where
    by_end : (is : Bool) → take n (cond is (take (length xs - 1) xs) xs) ≡ take n xs
    by_end true = take-take n (length xs - 1) xs (omega arith)
    by_end false = refl

text_length : (e : LineEnd) (line : Text) → length line ≤ length (line_text e line) + 2
text_length LineFeed line = omega (arith, strip_length 10 line, strip_length 13 (strip_last 10 line))
text_length ZeroByte line = omega (arith, strip_length 0 line)

text_front : (e : LineEnd) (n : ℕ) (line : Text) → n + 1 < length line → take n (line_text e line) ≡ take n line
text_front LineFeed n line within =
    strip_front 13 n (strip_last 10 line) (omega (arith, strip_length 10 line)) ∙ strip_front 10 n line (omega arith)
text_front ZeroByte n line within = strip_front 0 n line (omega arith)

-- ---- after a byte order mark

pub marked_length : (front : Bool) (text : Text) → length text ≤ length (after_mark front text) + 3
marked_length false text = omega arith
marked_length true [] = omega arith
marked_length true (a ∷ []) = omega arith
marked_length true (a ∷ b ∷ []) = omega arith
marked_length true (a ∷ b ∷ c ∷ text) = by_mark _
  where
    by_mark : (is : Bool) → length (a ∷ b ∷ c ∷ text) ≤ length (cond is text (a ∷ b ∷ c ∷ text)) + 3
    by_mark true = omega arith
    by_mark false = omega arith

pub marked_append : (front : Bool) (a b : Text) → 3 ≤ length a → after_mark front (a ++ b) ≡ after_mark front a ++ b
marked_append false a b long = refl
marked_append true [] b long = absurd (omega arith)
marked_append true (x ∷ []) b long = absurd (omega arith)
marked_append true (x ∷ y ∷ []) b long = absurd (omega arith)
marked_append true (x ∷ y ∷ z ∷ a) b long = by_mark _
  where
    by_mark : (is : Bool) → cond is (a ++ b) (x ∷ y ∷ z ∷ a ++ b) ≡ cond is a (x ∷ y ∷ z ∷ a) ++ b
    by_mark true = refl
    by_mark false = refl

-- ---- the verdict on a line whose text is too long

not_empty : (text : Text) → longest_text < length text → is_empty text ≡ true → ⊥
not_empty [] long e = omega arith
not_empty (x ∷ xs) long e = cc

is_some : (text : Text) → longest_text < length text → is_empty text ≡ false
is_some [] long = absurd (omega arith)
is_some (x ∷ xs) long = refl

module _ (rule : LineRule) where
  both_long : (x y : Text) (v : Verdict) → longest_text < length (line_text rule.ending x)
      → longest_text < length (line_text rule.ending y)
      → take reported (line_text rule.ending x) ≡ take reported (line_text rule.ending y) → IsVerdictOn rule x v → IsVerdictOn rule y v
  both_long x y (kept version given) long long' same is = absurd (omega (arith, is.2.0))
  both_long x y dropped long long' same is = absurd (omega (arith, is.2.0))
  both_long x y empty long long' same is = absurd (not_empty (line_text rule.ending x) long is.1)
  both_long x y (invalid front) long long' same is = (
    λ prefix v has. absurd (omega (arith, has.0)),
    is_some (line_text rule.ending y) long',
    is.2 ∙ same,
  )

  -- lines that begin with the same `longest_front` bytes have the same verdicts
  pub same_front : (front : Bool) (a b c : Text) (v : Verdict) → longest_front ≤ length a → IsVerdictOn rule (after_mark front (a ++ b)) v
      → IsVerdictOn rule (after_mark front (a ++ c)) v
  same_front front a b c v long is =
      let x = after_mark front a in
      let some : longest_text + 3 ≤ length x = omega (arith, marked_length front a) in
      let here : longest_text + 3 ≤ length (x ++ b) = omega (arith, length-append x b) in
      let there : longest_text + 3 ≤ length (x ++ c) = omega (arith, length-append x c) in
      let first = text_front rule.ending reported (x ++ b) (omega arith) ∙ take-append-le reported x b (omega arith) in
      let other = text_front rule.ending reported (x ++ c) (omega arith) ∙ take-append-le reported x c (omega arith) in
      let whole : IsVerdictOn rule (x ++ b) v = rw (← marked_append front a b (omega arith)) is in
      rw (marked_append front a c (omega arith)) (both_long (x ++ b) (x ++ c) v (omega (arith, text_length rule.ending (x ++ b)))
      (omega (arith, text_length rule.ending (x ++ c))) (first ∙ sym other) whole)

-- How the prefixes of finitely many texts are completed, found by trying each completion.
use Rattle.std.proofs.Common.{◌≡◌, ℕ, ◌≤◌, Bool, true, false, List, [], ◌∷◌, ◌++◌, arith, append-nil, append_assoc, subst}
use Rattle.std.specs.Prelude.{nat_le, not, ◌&&◌, ◌||◌}
use Rattle.std.specs.List.{list_all, list_any}
use Rattle.std.specs.Str.{IsUtf8, is_utf8}
use Rattle.std.proofs.lemmas.Bool.{and_parts}
use Rattle.std.proofs.lemmas.Bool.Decides.{nat_tests}
use Rattle.std.proofs.lemmas.List.Elements.{All-contains, All-from_recursion}
use Rattle.std.proofs.lemmas.List.Folds.{Any-from_list_any}
use Rattle.std.proofs.lemmas.Str.{IsUtf8-from_is_utf8}
use Rattle.semver_texts.specs.Texts.{Text}
use Rattle.semver_texts.specs.ToolVersions.{characters}
use Rattle.invalid_strings.proofs.Completions.{Completes, each_shown, is_cut, is_one, one_of}

module _ (texts completions : List Text) where
  -- whether `more` completes the prefix t, as `IsCompletedBy` says for this rest
  abbrev pub fills : Text → Text → Text → Bool
  fills t rest more =
      is_one texts (t ++ more) && (nat_le (characters more) (characters rest) && (is_cut rest || not (is_cut more)))

  -- whether one of the completions completes t, and one completes each longer prefix of t ++ rest
  abbrev pub go_on : Text → Text → Bool
  go_on t [] = list_any (fills t []) completions
  go_on t (b ∷ rest) = list_any (fills t (b ∷ rest)) completions && go_on (t ++ b ∷ []) rest

  goes_on_at : (front t rest : Text) → go_on front (t ++ rest) ≡ true → list_any (fills (front ++ t) rest) completions ≡ true
  goes_on_at front [] [] y = rw (append-nil front) y
  goes_on_at front [] (b ∷ rest) y = rw (append-nil front) (and_parts _ _ y).0
  goes_on_at front (b ∷ t) rest y =
      subst (λ x. list_any (fills x rest) completions ≡ true) (append_assoc front (b ∷ []) t)
      (goes_on_at (front ++ b ∷ []) t rest (and_parts _ _ y).1)

  module _ (least : Text) where
    -- whether the text is UTF-8, isn't shorter than `least`, and each of its prefixes except the empty
    -- one is completed
    abbrev pub is_filled : Text → Bool
    is_filled [] = false
    is_filled (b ∷ t) = is_utf8 (b ∷ t) && (nat_le (characters least) (characters (b ∷ t)) && go_on (b ∷ []) t)

    pub finite : is_one texts least ≡ true → is_cut least ≡ false → list_all is_filled texts ≡ true
        → Completes (λ t. is_one texts t ≡ true) least completions
    finite one uncut filled = record {
      contains = one;
      utf8 = λ t is. utf8 t (tried t is);
      least_short = λ t is. short t (tried t is);
      least_uncut = uncut;
      goes = λ b t rest is.
          let m = Any-from_list_any (fills (b ∷ t) rest) completions (goes_on_at (b ∷ []) t rest (later b (t ++ rest) (tried _ is))) in
          let fill = and_parts (is_one texts (b ∷ t ++ m.1)) _ m.4 in
          let other = and_parts (nat_le (characters m.1) (characters rest)) (is_cut rest || not (is_cut m.1)) fill.1 in
          record {
            more = m.1;
            completion = (m.0, m.2, m.3);
            is = fill.0;
            short = grind (arith, nat_tests);
            uncut = λ u. grind (arith, other.1, u);
          };
    }
      where
        tried : (t : Text) → is_one texts t ≡ true → is_filled t ≡ true
        tried t is = All-contains (λ x. is_filled x ≡ true) texts t
            (All-from_recursion (λ x. is_filled x ≡ true) texts (each_shown is_filled (λ x. is_filled x ≡ true) (λ x y. y) texts filled))
            (one_of texts t is)

        long : (b : ℕ) (t : Text) → is_filled (b ∷ t) ≡ true
            → (nat_le (characters least) (characters (b ∷ t)) ≡ true) × (go_on (b ∷ []) t ≡ true)
        long b t y = and_parts (nat_le (characters least) (characters (b ∷ t))) _ (and_parts (is_utf8 (b ∷ t)) _ y).1

        utf8 : (t : Text) → is_filled t ≡ true → IsUtf8 t
        utf8 [] y = cc
        utf8 (b ∷ t) y = IsUtf8-from_is_utf8 (b ∷ t) (and_parts (is_utf8 (b ∷ t)) _ y).0

        short : (t : Text) → is_filled t ≡ true → characters least ≤ characters t
        short [] y = cc
        short (b ∷ t) y = let less = (long b t y).0 in grind (arith, nat_tests)

        later : (b : ℕ) (t : Text) → is_filled (b ∷ t) ≡ true → go_on (b ∷ []) t ≡ true
        later b t y = (long b t y).1

-- A loop over completions, which looks for one that completes a prefix to a text of the language.
use Rattle.std.proofs.Common.{◌≡◌, ◌∙◌, ℕ, ◌+◌, ◌<◌, ◌≤◌, List, [], ◌++◌, get_or, ap, arith, below_more, length, map, subst, sym}
use Rattle.std.proofs.lemmas.List.{get_or-map, get_or_default, length-map}
use Rattle.std.proofs.lemmas.List.Elements.{All-contains, All-from_recursion}
use Rattle.semver_texts.specs.Texts.{Text}
use Rattle.invalid_strings.specs.Prefixes.{AreShort, GoesOn}

abbrev pub NoneYet : (Text → Type 0) → List Text → Text → ℕ → Type 0
NoneYet Is completions prefix i = (k : ℕ) → k < i → ¬ (Is (prefix ++ get_or completions k []))

-- `refs` are references to the completions
module _ {R : Type 0} (completions : List Text) (refs : List R) (now : R → Text) (same : map now refs ≡ completions) where
  pub as_long : length refs ≡ length completions
  as_long = sym (length-map refs now) ∙ ap length same

  at : (i : ℕ) (d : R) → i < length refs → get_or completions i [] ≡ now (get_or refs i d)
  at i d within = ap (λ (es : List Text). get_or es i []) (sym same) ∙ get_or-map {Y = Text} now refs i d [] within

  short_at : AreShort completions → (i : ℕ) (d : R) → i < length refs → length (now (get_or refs i d)) ≤ 8
  short_at short i d within =
      let inside : i < length completions = omega (arith, as_long) in
      subst (λ completion. length completion ≤ 8) (at i d within)
      (All-contains (λ completion. length completion ≤ 8) completions (get_or completions i [])
      (All-from_recursion (λ completion. length completion ≤ 8) completions short)
      (i, inside, get_or_default completions i (get_or completions i []) [] inside))

  -- a free capacity of 8 bytes is enough for each completion
  pub room_at : AreShort completions → (i : ℕ) (d : R) → i < length refs → (end room : ℕ) → end + 8 ≤ room
      → end + length (now (get_or refs i d)) ≤ room
  room_at short i d within end room large = omega (arith, short_at short i d within)

module _ {R : Type 0} (Is : Text → Type 0) (completions : List Text) (prefix : Text) (refs : List R) (now : R → Text)
    (same : map now refs ≡ completions) where
  pub goes_on : (i : ℕ) (d : R) → i < length refs → Is (prefix ++ now (get_or refs i d)) → GoesOn Is completions prefix
  goes_on i d within is =
      let inside : i < length completions = omega (arith, as_long completions refs now same) in
      let here = at completions refs now same i d within in
      (i, now (get_or refs i d), inside, get_or_default completions i (now (get_or refs i d)) [] inside ∙ here, is)

  pub none_more : (i : ℕ) (d : R) → i < length refs → ¬ (Is (prefix ++ now (get_or refs i d)))
      → NoneYet Is completions prefix i → NoneYet Is completions prefix (i + 1)
  none_more i d within none before =
      below_more _ i before (λ is. none (subst (λ completion. Is (prefix ++ completion)) (at completions refs now same i d within) is))

  pub none_left : (n : ℕ) → length refs ≤ n → NoneYet Is completions prefix n → ¬ (GoesOn Is completions prefix)
  none_left n all none goes = none goes.0 (omega (arith, as_long completions refs now same, goes.2))
      (subst (λ completion. Is (prefix ++ completion)) (sym goes.3 ∙ get_or_default completions goes.0 goes.1 [] goes.2) goes.4)

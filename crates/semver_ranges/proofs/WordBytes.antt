-- Each byte of a word passes a test that letters, digits, `-`, `.`, `+` and `*` pass.
use Rattle.std.proofs.Common.{◌≡◌, ℕ, Bool, true, ◌==◌, List, [], ◌∷◌, ◌++◌, refl, ◌∙◌, arith, codes, inl, inr}
use Rattle.std.proofs.lemmas.Bool.{and_from, and_parts, eqb-true}
use Rattle.std.proofs.lemmas.Bool.Decides.{nat_tests}
use Rattle.std.proofs.lemmas.List.Folds.{list_all-append}
use Rattle.std.specs.Char.{is_ascii_digit}
use Rattle.std.specs.List.{join_with_byte, list_all}
use Rattle.std.specs.Str.{all_ascii_digits}
use Rattle.semver_texts.specs.Texts.{Text, is_part, is_part_byte, marked}
use Rattle.semver_texts.specs.declared.grammar.Grammar.{Grammar}
use Rattle.semver_texts.specs.declared.grammar.Grammar.TheVariants.{Crate, Cargo, Npm}
use Rattle.semver_texts.proofs.Lists.{by_test}
use Rattle.semver_ranges.specs.RangeTree.{PartialTree, Role, SpellsPartial, SpellsWord, HasParts, components, is_component, one, qualifier}
use Rattle.semver_ranges.specs.RangeTree.{is_wildcard, three, two}

digit_in_part : (b : ℕ) → is_ascii_digit b ≡ true → is_part_byte b ≡ true
digit_in_part b e = grind (arith, nat_tests)

letter_in_part : (b : ℕ) → is_wildcard (b ∷ []) ≡ true → (b == 42) ≡ Bool.false → is_part_byte b ≡ true
letter_in_part b e n = grind (arith, nat_tests)

module _ (p : ℕ → Bool) (in_part : (b : ℕ) → is_part_byte b ≡ true → p b ≡ true) (star : p 42 ≡ true) (dot : p 46 ≡ true) (plus : p 43 ≡ true)
  where
    part_bytes : (t : Text) → list_all is_part_byte t ≡ true → list_all p t ≡ true
    part_bytes [] e = refl
    part_bytes (b ∷ t) e = let parts = and_parts (is_part_byte b) _ e in and_from _ _ (in_part b parts.0) (part_bytes t parts.1)

    digit_bytes : (t : Text) → all_ascii_digits t ≡ true → list_all p t ≡ true
    digit_bytes [] e = refl
    digit_bytes (b ∷ t) e =
        let parts = and_parts (is_ascii_digit b) (all_ascii_digits t) e in
        and_from _ _ (in_part b (digit_in_part b parts.0)) (digit_bytes t parts.1)

    wildcard_byte : (b : ℕ) → is_wildcard (b ∷ []) ≡ true → p b ≡ true
    wildcard_byte b e = by_test (b == 42) (λ y. rw (eqb-true b 42 y) star) (λ n. in_part b (letter_in_part b e n))

    component_bytes : (t : Text) → is_component t ≡ true → list_all p t ≡ true
    component_bytes [] e = refl
    component_bytes (b ∷ []) e = by_test (is_wildcard (b ∷ []))
        (λ y. and_from _ _ (wildcard_byte b y) refl)
        (λ n. digit_bytes (b ∷ []) (grind arith))
    component_bytes (b ∷ c ∷ t) e = digit_bytes (b ∷ c ∷ t) (grind arith)

    joined_bytes : (ts : List Text) → list_all (λ t. list_all p t) ts ≡ true → list_all p (join_with_byte 46 ts) ≡ true
    joined_bytes [] e = refl
    joined_bytes (t ∷ []) e = (and_parts (list_all p t) true e).0
    joined_bytes (t ∷ u ∷ ts) e = let parts = and_parts (list_all p t) (list_all (λ t. list_all p t) (u ∷ ts)) e in
        list_all-append p t (46 ∷ join_with_byte 46 (u ∷ ts)) ∙ and_from _ _ parts.0 (and_from _ _ dot (joined_bytes (u ∷ ts) parts.1))

    parts_bytes : (ts : List Text) → list_all is_part ts ≡ true → list_all (λ t. list_all p t) ts ≡ true
    parts_bytes [] e = refl
    parts_bytes (t ∷ ts) e = let parts = and_parts (is_part t) (list_all is_part ts) e in
        and_from _ _ (part_bytes t (and_parts _ _ parts.0).1) (parts_bytes ts parts.1)

    components_bytes : (ts : List Text) → list_all is_component ts ≡ true → list_all (λ t. list_all p t) ts ≡ true
    components_bytes [] e = refl
    components_bytes (t ∷ ts) e = let parts = and_parts (is_component t) (list_all is_component ts) e in
        and_from _ _ (component_bytes t parts.0) (components_bytes ts parts.1)

    marked_bytes : (mark : ℕ) → p mark ≡ true → (ts : List Text) → list_all is_part ts ≡ true → list_all p (marked (mark ∷ []) ts) ≡ true
    marked_bytes mark m [] e = refl
    marked_bytes mark m (t ∷ ts) e = and_from _ _ m (joined_bytes (t ∷ ts) (parts_bytes (t ∷ ts) e))

    appended : (t u : Text) → list_all p t ≡ true → list_all p u ≡ true → list_all p (t ++ u) ≡ true
    appended t u a b = list_all-append p t u ∙ and_from _ _ a b

    qualifier_bytes : (x : PartialTree) → HasParts x → list_all p (qualifier x) ≡ true
    qualifier_bytes (one a) parts = refl
    qualifier_bytes (two a b) parts = refl
    qualifier_bytes (three a b c pre build) (pres, builds) =
        appended (marked (codes "-") pre) (marked (codes "+") build) (marked_bytes 45 (in_part 45 refl) pre pres) (marked_bytes 43 plus build builds)

    pub partial_bytes : (x : PartialTree) (t : Text) → SpellsPartial x t → list_all p t ≡ true
    partial_bytes x t (h, parts, text) =
        let numbers = joined_bytes (components x) (components_bytes (components x) h) in
        rw text (appended (join_with_byte 46 (components x)) (qualifier x) numbers (qualifier_bytes x parts))

    pub word_bytes : (d : Grammar) (role : Role) (x : PartialTree) (t : Text) → SpellsWord d role x t → list_all p t ≡ true
    word_bytes Crate role x t h = partial_bytes x t h
    word_bytes Cargo role x t h = partial_bytes x t h
    word_bytes Npm role x t (front, back, mark, spelled, taken, text) = rw text (elim mark [
      | inl e ↦ rw e (partial_bytes x back spelled)
      | inr e ↦ rw e (and_from _ _ (in_part 118 refl) (partial_bytes x back spelled))
    ])

-- Each prefix of blanks, of a component and of an identifier in a range text can be completed by one
-- of a few texts.
use Rattle.std.proofs.Common.{◌≡◌, ℕ, ◌≤◌, Bool, true, false, [], ◌∷◌, ◌++◌, codes, length, refl, sym, subst, arith, append-nil, ◌∙◌}
use Rattle.std.specs.List.{list_all}
use Rattle.std.proofs.lemmas.Bool.{and_parts, and_from}
use Rattle.std.proofs.lemmas.Bool.Decides.{nat_tests}
use Rattle.std.proofs.lemmas.List.Folds.{list_all-append}
use Rattle.semver_texts.specs.Texts.{Text, is_number, is_part}
use Rattle.semver_texts.specs.declared.grammar.Grammar.{Grammar}
use Rattle.semver_texts.specs.declared.grammar.Grammar.TheVariants.{Crate, Cargo, Npm}
use Rattle.semver_ranges.specs.RangeTree.{AreBlanks, AreSomeBlanks, is_blank, is_component, is_wildcard}
use Rattle.invalid_strings.proofs.Completions.{CompletesBy, IsCompletedBy, in_bytes, is_cut}
use Rattle.invalid_strings.proofs.Leaves.{IsPartWith, byte_apart, digits_prefix, letter_part}

-- if each prefix of a text with a property has it, too, except perhaps the empty prefix, the empty
-- completion is enough
pub closed : (Is : Text → Type 0) (lowest : Text) → Is lowest → is_cut lowest ≡ false → ((t : Text) → Is t → length lowest ≤ length t)
    → ((b : ℕ) (t rest : Text) → Is (b ∷ t ++ rest) → Is (b ∷ t)) → CompletesBy in_bytes Is lowest ([] ∷ [])
closed Is lowest contains uncut short prefix = record {
  contains = contains;
  utf8 = λ t is. tt;
  least_short = short;
  least_uncut = uncut;
  goes = λ b t rest is. record {
    more = [];
    completion = (0, omega arith, refl);
    is = subst Is (sym (append-nil (b ∷ t))) (prefix b t rest is);
    short = omega arith;
    uncut = λ u. refl;
  };
}

pub nothing : CompletesBy in_bytes (λ t. t ≡ []) [] []
nothing = record { contains = refl; utf8 = λ t is. tt; least_short = λ t is. omega arith; least_uncut = refl; goes = λ b t rest is. absurd (cc) }

-- ---- blanks

blanks_prefix : (d : Grammar) (x y : Text) → AreBlanks d (x ++ y) → AreBlanks d x
blanks_prefix d x y e = (and_parts (list_all (is_blank d) x) (list_all (is_blank d) y) (sym (list_all-append (is_blank d) x y) ∙ e)).0

pub blanks_append : (d : Grammar) (x y : Text) → AreBlanks d x → AreBlanks d y → AreBlanks d (x ++ y)
blanks_append d x y v w = list_all-append (is_blank d) x y ∙ and_from (list_all (is_blank d) x) (list_all (is_blank d) y) v w

space_is_blank : (d : Grammar) → list_all (is_blank d) (codes " ") ≡ true
space_is_blank Crate = refl
space_is_blank Cargo = refl
space_is_blank Npm = refl

pub blanks : (d : Grammar) → CompletesBy in_bytes (AreBlanks d) [] ([] ∷ [])
blanks d = closed (AreBlanks d) [] refl refl (λ t is. omega arith) (λ b t rest is. blanks_prefix d (b ∷ t) rest is)

pub some_blanks : (d : Grammar) → CompletesBy in_bytes (AreSomeBlanks d) (codes " ") ([] ∷ [])
some_blanks d = closed (AreSomeBlanks d) (codes " ") (refl, space_is_blank d) refl some (λ b t rest is. (
  refl,
  blanks_prefix d
      (b ∷ t) rest is.1,
))
  where
    some : (t : Text) → AreSomeBlanks d t → 1 ≤ length t
    some [] is = absurd (let e = is.0 in cc)
    some (b ∷ t) is = omega arith

-- ---- components

pub some_component : (t : Text) → is_component t ≡ true → 1 ≤ length t
some_component [] is = cc
some_component (b ∷ t) is = omega arith

pub number_prefix : (b : ℕ) (t rest : Text) → is_number (b ∷ t ++ rest) ≡ true → is_number (b ∷ t) ≡ true
number_prefix b [] [] is = is
number_prefix b [] (c ∷ rest) is = grind (arith, nat_tests)
number_prefix b (c ∷ t) rest is = grind (arith, nat_tests, digits_prefix t rest)

pub component_prefix : (b : ℕ) (t rest : Text) → is_component (b ∷ t ++ rest) ≡ true → is_component (b ∷ t) ≡ true
component_prefix b [] [] is = is
component_prefix b [] (c ∷ rest) is = grind (arith, nat_tests)
component_prefix b (c ∷ t) rest is = grind (arith, nat_tests, digits_prefix t rest)

pub wildcard_prefix : (b : ℕ) (t rest : Text) → is_wildcard (b ∷ t ++ rest) ≡ true → is_wildcard (b ∷ t) ≡ true
wildcard_prefix b [] [] is = is
wildcard_prefix b [] (c ∷ rest) is = cc
wildcard_prefix b (c ∷ t) rest is = cc

-- ---- identifiers that pass a test, if each of their prefixes passes it with a letter added

module _ (passes : Text → Bool) (alone : passes (codes "a") ≡ true)
    (with_letter : (x : Text) (c : ℕ) (rest : Text) → passes (x ++ (c ∷ rest)) ≡ true → passes (x ++ codes "a") ≡ true) where
  part_goes : (b : ℕ) (t rest : Text) → IsPartWith passes (b ∷ t ++ rest)
      → IsCompletedBy in_bytes (IsPartWith passes) ([] ∷ codes "a" ∷ []) (b ∷ t) rest
  part_goes b t [] is = record { more = []; completion = (0, omega arith, refl); is = is; short = omega arith; uncut = λ u. refl }
  part_goes b t (c ∷ rest) is = let both = byte_apart (b ∷ t) (c ∷ rest) is.0 in record {
    more = codes "a";
    completion = (1, omega arith, refl);
    is = (letter_part (b ∷ t) both.0, with_letter (b ∷ t) c rest is.1);
    short = omega arith;
    uncut = λ u. refl;
  }

  pub part : CompletesBy in_bytes (IsPartWith passes) (codes "a") ([] ∷ codes "a" ∷ [])
  part = record { contains = (refl, alone); utf8 = λ t is. tt; least_short = λ t is. some t is.0; least_uncut = refl; goes = part_goes }
    where
      some : (t : Text) → is_part t ≡ true → 1 ≤ length t
      some [] is = cc
      some (b ∷ t) is = omega arith

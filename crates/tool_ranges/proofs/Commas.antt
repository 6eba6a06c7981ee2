-- A requirement has one comma less than comparators.
use Rattle.std.proofs.Common.{◌≡◌, ℕ, suc, ◌+◌, ◌≤◌, true, false, not, ◌==◌, List, [], ◌∷◌, ◌++◌, length, refl, ap, ◌∙◌}
use Rattle.std.proofs.Common.{arith}
use Rattle.std.proofs.lemmas.Bool.{and_parts, eqb-true}
use Rattle.std.proofs.lemmas.Bool.Decides.{nat_tests}
use Rattle.std.specs.List.{list_all}
use Rattle.semver_texts.specs.Texts.{Text, is_part_byte}
use Rattle.semver_texts.specs.declared.grammar.Grammar.TheVariants as grammar
use Rattle.semver_texts.proofs.Lists.{by_test}
use Rattle.semver_ranges.specs.declared.operator.Operator.{Operator}
use Rattle.semver_ranges.specs.declared.operator.Operator.TheVariants.{Bare, Equal, Less, LessOrEqual, Greater, GreaterOrEqual, Tilde}
use Rattle.semver_ranges.specs.declared.operator.Operator.TheVariants.{Caret, Hyphen}
use Rattle.semver_ranges.specs.RangeTree.{Simple, is_blank, AreBlanks}
use Rattle.semver_ranges.specs.CargoGrammar.{SpellsComparator, SpellsComparators}
use Rattle.semver_ranges.specs.OperatorTable.{sign}
use Rattle.semver_ranges.proofs.WordBytes.{partial_bytes}
use Rattle.tool_ranges.specs.Steps.TextEvents.{commas}

commas_append : (t u : Text) → commas (t ++ u) ≡ commas t + commas u
commas_append [] u = omega arith
commas_append (b ∷ t) u = by_test (b == 44)
    (λ y. rw (y, commas_append t u) (omega arith))
    (λ n. rw (n, commas_append t u) refl)

no_commas : (t : Text) → list_all (λ b. not (b == 44)) t ≡ true → commas t ≡ 0
no_commas [] e = refl
no_commas (b ∷ t) e = by_test (b == 44)
    (λ y. let no : false ≡ true = rw y at e in cc)
    (λ n. let rest : list_all (λ b. not (b == 44)) t ≡ true = rw n at e in rw n (no_commas t rest))

blanks_no_commas : (t : Text) → AreBlanks grammar.Cargo t → commas t ≡ 0
blanks_no_commas [] e = refl
blanks_no_commas (b ∷ t) e =
    let parts = and_parts (is_blank grammar.Cargo b) _ e in
    rw (eqb-true b 32 parts.0) (blanks_no_commas t parts.1)

sign_no_commas : (f : Operator) → commas (sign f) ≡ 0
sign_no_commas Bare = refl
sign_no_commas Equal = refl
sign_no_commas Less = refl
sign_no_commas LessOrEqual = refl
sign_no_commas Greater = refl
sign_no_commas GreaterOrEqual = refl
sign_no_commas Tilde = refl
sign_no_commas Caret = refl
sign_no_commas Hyphen = refl

part_no_comma : (b : ℕ) → is_part_byte b ≡ true → not (b == 44) ≡ true
part_no_comma b e = grind (arith, nat_tests)

comparator_commas : (s : Simple) (t : Text) → SpellsComparator s t → commas t ≡ 0
comparator_commas s t h =
    let word = no_commas h.word (partial_bytes (λ b. not (b == 44)) part_no_comma refl refl refl s.partial h.word h.partial) in
    rw (
      h.text,
      commas_append h.before (sign s.operator ++ (h.gap ++ (h.word ++ h.after))),
      commas_append (sign s.operator) (h.gap ++ (h.word ++ h.after)),
      commas_append h.gap (h.word ++ h.after),
      commas_append h.word h.after,
      blanks_no_commas h.before h.before_is,
      sign_no_commas s.operator,
      blanks_no_commas h.gap h.gap_is,
      word,
      blanks_no_commas h.after h.after_is,
    ) refl

pub comparators_commas : (tree : List Simple) (t : Text) → SpellsComparators tree t → suc (commas t) ≡ length tree
comparators_commas [] t h = absurd h
comparators_commas (s ∷ []) t h = ap suc (comparator_commas s t h)
comparators_commas (s ∷ next ∷ others) t (front, back, h, more, text) =
    let total : commas t ≡ commas front + suc (commas back) = ap commas text ∙ commas_append front (44 ∷ back) in
    let none = comparator_commas s front h in
    let rest = comparators_commas (next ∷ others) back more in
    omega (arith, total, none, rest)

pub commas_within : (t : Text) → commas t ≤ length t
commas_within [] = omega arith
commas_within (b ∷ t) = let Less = commas_within t in by_test (b == 44) (λ y. rw y (omega (arith, Less))) (λ n. rw n (omega (arith, Less)))

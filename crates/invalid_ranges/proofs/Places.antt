-- Lemmas for the offset of an error in a range text: the completions of prefixes, and the longest
-- prefix.
use Rattle.std.proofs.Common.{◌≡◌, ℕ, ◌<◌, ◌≤◌, [], ◌∷◌, ◌++◌, List, codes, refl, sym, rules}
use Rattle.std.proofs.Common.{arith, length, take}
use Rattle.std.specs.List.{AllByRecursion}
use Rattle.std.specs.Str.{IsUtf8, chars}
use Rattle.std.proofs.lemmas.List.Elements.{All-contains, All-from_recursion}
use Rattle.std.proofs.lemmas.Str.{IsUtf8-take}
use Rattle.semver_texts.specs.Texts.{Text}
use Rattle.semver_texts.specs.declared.grammar.Grammar.{Grammar}
use Rattle.semver_texts.specs.declared.grammar.Grammar.TheVariants as grammar
use Rattle.semver_ranges.specs.declared.operator.Operator.TheVariants.{Bare}
use Rattle.semver_ranges.specs.RangeTree.{SpellsRangeIn, empty, one, simples}
use Rattle.invalid_strings.specs.Prefixes.{AreCompletions, Begins, IsLongestPrefix}
use Rattle.invalid_strings.proofs.LongestPrefixes.{ascii_utf8}
use Rattle.semver_ranges.specs.declared.dialect.Dialect.{Dialect}
use Rattle.semver_ranges.specs.declared.dialect.Dialect.TheVariants.{Cargo, Npm}
use Rattle.invalid_ranges.specs.Prefixes.{BeginsAs}
use Rattle.semver_ranges.specs.CargoGrammar.{SpellsRequirement}
use Rattle.tool_ranges.specs.Dialects.{IsTextAs}
use Rattle.invalid_ranges.specs.Steps.Places.{range_completions}
use Rattle.invalid_ranges.specs.TooLarge.{IsLimitOffset}
use Rattle.invalid_ranges.proofs.FirstOffsets.{same_limit}
use Rattle.invalid_ranges.proofs.ReadingCompletions.{goes_on}
use Rattle.std.proofs.Common.{◌∙◌}
use Rattle.std.proofs.lemmas.Grind.{common_steps}

-- ---- prefixes

abbrev AreAscii : List Text → Type 0
AreAscii ts = AllByRecursion (AllByRecursion (λ b. b < 128)) ts

ascii : AreAscii range_completions
ascii = search rules

short : AllByRecursion (λ t. length t ≤ 8) range_completions
short = search rules

empty_range : (d : Grammar) → SpellsRangeIn d (empty ∷ []) []
empty_range d = search rules

one_comparator : SpellsRequirement (simples (record { operator = Bare; partial = one (codes "1") }) [] ∷ []) (codes "1")
one_comparator = record {
  comparators = record {
    before = [];
    gap = [];
    word = codes "1";
    after = [];
    before_is = refl;
    gap_is = refl;
    after_is = refl;
    partial = (refl, tt, refl);
    is_read = refl;
    text = refl;
  };
  alone = refl;
  few = omega arith;
}

pub nothing_begins : (dialect : Dialect) → BeginsAs dialect []
unfolding chars
nothing_begins Cargo = grind (arith, common_steps, one_comparator)
nothing_begins Npm = ([], (empty ∷ [], record { spelled = empty_range grammar.Npm; characters = refl }))
nothing_begins d = ([], (empty ∷ [], empty_range grammar.Crate))

nothing_utf8 : IsUtf8 []
nothing_utf8 = ascii_utf8 [] tt

pub completed : (dialect : Dialect) → AreCompletions (IsTextAs dialect) range_completions
completed dialect = record {
  ascii = ascii;
  short = short;
  some = let w = nothing_begins dialect in goes_on dialect [] w.0 nothing_utf8 w.1;
  complete = λ t rest utf8 more is. goes_on dialect t rest utf8 is;
}

pub shorter_prefix : (dialect : Dialect) (x y : Text) → BeginsAs dialect (x ++ y) → BeginsAs dialect x
shorter_prefix dialect x y (rest, text) = grind (arith, common_steps)

pub text_begins : (dialect : Dialect) (t : Text) → IsTextAs dialect t → BeginsAs dialect t
text_begins dialect t w = search rules

-- ---- the longest prefix, if any bytes may follow it

module _ (dialect : Dialect) (t : Text) (utf8 : IsUtf8 t) where
  any_rest : (x : Text) → IsUtf8 x → BeginsAs dialect x → Begins (IsTextAs dialect) x
  any_rest x whole (rest, is) =
      let g = goes_on dialect x rest whole is in
      let all = All-contains (AllByRecursion (λ b. b < 128)) range_completions g.1
      (All-from_recursion (AllByRecursion (λ b. b < 128)) range_completions ascii) (g.0, g.2, g.3) in
      (g.1, ascii_utf8 g.1 all, g.4)

  pub longest_as : (n : ℕ) → IsLongestPrefix (Begins (IsTextAs dialect)) t n → IsLongestPrefix (BeginsAs dialect) t n
  longest_as n w = record {
    within = w.within;
    boundary = w.boundary;
    prefix = (w.prefix.0, w.prefix.2);
    no_longer = λ k longer boundary begins. w.no_longer k longer boundary (any_rest (take k t) (IsUtf8-take t k utf8 boundary) begins);
  }

-- ---- numbers that are too large

pub one_limit : (dialect : Dialect) (t : Text) (m n : ℕ) → IsLimitOffset dialect t m → IsLimitOffset dialect t n → m ≡ n
one_limit dialect t m n a b = a.is ∙ same_limit dialect t a.tree a.spelled b.tree b.spelled ∙ sym b.is

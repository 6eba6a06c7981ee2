-- The bytes of words are ASCII.
use Rattle.std.proofs.Common.{◌≡◌, ℕ, Bool, true, refl, arith}
use Rattle.std.proofs.lemmas.Bool.Decides.{nat_tests}
use Rattle.std.specs.Prelude.{nat_lt}
use Rattle.std.specs.List.{list_all}
use Rattle.semver_texts.specs.Texts.{Text, is_part_byte}
use Rattle.semver_texts.specs.declared.grammar.Grammar.{Grammar}
use Rattle.semver_ranges.specs.RangeTree.{PartialTree, Role, SpellsPartial, SpellsWord}
use Rattle.semver_ranges.proofs.WordBytes.{partial_bytes, word_bytes}

abbrev pub is_low : ℕ → Bool
is_low b = nat_lt b 128

part_low : (b : ℕ) → is_part_byte b ≡ true → is_low b ≡ true
part_low b e = grind (arith, nat_tests)

pub partial_low : (p : PartialTree) (t : Text) → SpellsPartial p t → list_all is_low t ≡ true
partial_low = partial_bytes is_low part_low refl refl refl

pub word_low : (d : Grammar) (role : Role) (p : PartialTree) (t : Text) → SpellsWord d role p t → list_all is_low t ≡ true
word_low = word_bytes is_low part_low refl refl refl

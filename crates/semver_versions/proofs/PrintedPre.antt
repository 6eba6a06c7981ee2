-- The pre-release in the text of a version without build metadata is what follows the first hyphen.
use Rattle.std.proofs.Common.{◌≡◌, ℕ, ◌<◌, ◌^◌, Bool, true, List, [], ◌∷◌, ◌++◌, Option, Some, None, Bor, length, map, not, decimal, arith, ap, sym, refl, ◌∙◌, one-add, lit<, nat_eq}
use Rattle.std.specs.Prelude.{◌+◌, MatchOption, drop, take}
use Rattle.std.specs.Char.{is_ascii_alphanumeric}
use Rattle.std.specs.List.{AllByRecursion, join_with_byte, list_all, prefix_len}
use Rattle.std.proofs.Math.Seq.{drop-append-add}
use Rattle.std.proofs.lemmas.Bool.Decides.{nat_tests}
use Rattle.std.proofs.lemmas.List.{append-nil, length-append}
use Rattle.std.proofs.lemmas.Str.Pattern.{IsSplitOnceResult, split_once_first}
use Rattle.semver_texts.specs.PrintedText.{identifier_text, plain_text, version_text}
use Rattle.semver_texts.specs.Texts.{Text, is_part, marked}
use Rattle.semver_texts.specs.Versions.{IdentifierValue, PlainVersion, VersionValue, numbers}
use Rattle.semver_texts.proofs.Lists.{Passes, all_more, joined_pass}
use Rattle.semver_texts.proofs.Runs.{decimal_is_run}
use Rattle.semver_versions.specs.Steps.Reading.{ArePartTexts}
use Rattle.semver_versions.specs.VersionRefs.{dotted_text}
use Rattle.semver_versions.proofs.KeptTexts.{parts_cut}

abbrev pub is_other : ℕ → Bool
is_other b = not (nat_eq b 45)

run_is_other : (b : ℕ) → is_ascii_alphanumeric b ≡ true → is_other b ≡ true
run_is_other b h = grind (arith, nat_tests)

number_passes : (n : ℕ) → n < 2 ^ 64 → Passes is_other (decimal n)
number_passes n small = all_more run_is_other (decimal n) (decimal_is_run n small).1

numbers_pass : (a b c : ℕ) → a < 2 ^ 64 → b < 2 ^ 64 → c < 2 ^ 64
    → Passes is_other (join_with_byte 46 (map decimal (a ∷ b ∷ c ∷ [])))
numbers_pass a b c x y z =
    joined_pass is_other 46 refl (decimal a ∷ decimal b ∷ decimal c ∷ [])
    (number_passes a x, (number_passes b y, (number_passes c z, tt)))

first_hyphen : (numbers pre : Text) → Passes is_other numbers → prefix_len is_other (numbers ++ 45 ∷ pre) ≡ length numbers
first_hyphen [] pre all = refl
first_hyphen (b ∷ numbers) pre all = rw (all.0, first_hyphen numbers pre all.1, one-add)

no_hyphen : (numbers : Text) → Passes is_other numbers → prefix_len is_other numbers ≡ length numbers
no_hyphen [] all = refl
no_hyphen (b ∷ numbers) all = rw (all.0, no_hyphen numbers all.1, one-add)

-- what follows the first hyphen of numbers and a pre-release after its mark is the pre-release
split : (numbers : Text) (ids : List IdentifierValue) (bytes : Text) (r : Option (Bor Text × Bor Text))
    → Passes is_other numbers → bytes ≡ numbers ++ marked (45 ∷ []) (map identifier_text ids) → IsSplitOnceResult 45 bytes r
    → MatchOption r ([] ≡ dotted_text ids) (λ x. x.1.now ≡ dotted_text ids)
split numbers [] bytes r all is h = at_end r (split_once_first 45 bytes r h (lit< tt)) where
  same : bytes ≡ numbers
  same = is ∙ append-nil numbers

  at_end : (r : Option (Bor Text × Bor Text)) → MatchOption r (prefix_len is_other bytes ≡ length bytes)
      (λ x. (prefix_len is_other bytes < length bytes) × (x.0.now ≡ take (prefix_len is_other bytes) bytes) × (x.1.now ≡ drop (prefix_len is_other bytes + 1) bytes))
      → MatchOption r ([] ≡ dotted_text []) (λ x. x.1.now ≡ dotted_text [])
  at_end None found = refl
  at_end (Some x) found =
      let whole : prefix_len is_other bytes ≡ length bytes = rw same (no_hyphen numbers all) in
      absurd (omega (arith, found.0, whole))
split numbers (id ∷ ids) bytes r all is h = after r (split_once_first 45 bytes r h (lit< tt)) where
  at : prefix_len is_other bytes ≡ length numbers
  at = rw is (first_hyphen numbers (dotted_text (id ∷ ids)) all)

  after : (r : Option (Bor Text × Bor Text)) → MatchOption r (prefix_len is_other bytes ≡ length bytes)
      (λ x. (prefix_len is_other bytes < length bytes) × (x.0.now ≡ take (prefix_len is_other bytes) bytes) × (x.1.now ≡ drop (prefix_len is_other bytes + 1) bytes))
      → MatchOption r ([] ≡ dotted_text (id ∷ ids)) (λ x. x.1.now ≡ dotted_text (id ∷ ids))
  after None found = absurd (omega (arith, found, at, ap length is, length-append numbers (45 ∷ dotted_text (id ∷ ids))))
  after (Some x) found = found.2 ∙ ap (λ n. drop (n + 1) bytes) at ∙ ap (drop (length numbers + 1)) is ∙ drop-append-add numbers (45 ∷ dotted_text (id ∷ ids)) 1

-- what follows the first hyphen of a printed version without build metadata is its pre-release
pub after_hyphen : (v : PlainVersion) → AllByRecursion (λ n. n < 2 ^ 64) (numbers v)
    → (bytes : Text) (r : Option (Bor Text × Bor Text)) → bytes ≡ plain_text v → IsSplitOnceResult 45 bytes r
    → MatchOption r ([] ≡ dotted_text v.pre) (λ x. x.1.now ≡ dotted_text v.pre)
after_hyphen v small bytes r is h = split _ v.pre bytes r (numbers_pass v.major v.minor v.patch small.0 small.1.0 small.1.1.0) is h

pub no_build : (v : VersionValue) → v.build ≡ [] → version_text v ≡ plain_text v.plain
no_build v none = rw none (append-nil (plain_text v.plain))

pub part_texts : (ts : List Text) → list_all is_part ts ≡ true → ArePartTexts (join_with_byte 46 ts)
part_texts ts e = rw (parts_cut ts e) e

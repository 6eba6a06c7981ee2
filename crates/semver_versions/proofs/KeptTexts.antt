-- Texts of letters, digits and hyphens, the identifiers that they are kept as, and such texts joined
-- by dots.
use Rattle.std.proofs.Common.{◌≡◌, ℕ, ◌<◌, ◌≤◌, ◌^◌, Bool, true, false, List, [], ◌∷◌, ◌++◌, length, map, arith, ap, sym, refl}
use Rattle.std.proofs.Common.{◌∙◌, subst}
use Rattle.std.specs.Prelude.{◌&&◌, nat_lt, if◌then◌else◌, slice_index}
use Rattle.std.specs.Char.{is_ascii_digit}
use Rattle.std.specs.List.{AllByRecursion, AllZip, join_with_byte, list_all}
use Rattle.std.specs.Str.Parse.{digits_value}
use Rattle.std.proofs.lemmas.Bool.{and_parts}
use Rattle.std.proofs.lemmas.Bool.Decides.{nat_tests}
use Rattle.std.proofs.lemmas.Grind.{common_steps}
use Rattle.std.proofs.lemmas.List.Splits.{join_with_byte-slice_split, length-slice_split}
use Rattle.semver_texts.specs.Digits.{any_size, identifier_by, identifiers_by}
use Rattle.semver_texts.specs.PrintedText.{identifier_text, numeral}
use Rattle.semver_texts.specs.Texts.{Text, IsNumber, cut_at_dots, is_dot, is_large, is_number, is_part, is_part_byte, marked}
use Rattle.semver_texts.specs.ToolVersions.{IsKeptAs}
use Rattle.semver_texts.specs.Versions.{IdentifierValue, numeric, alphanumeric}
use Rattle.semver_texts.specs.VersionGrammar.{IsIdentifierText, SpellsIdentifier}
use Rattle.semver_texts.specs.declared.grammar.Digits.{Digits}
use Rattle.semver_texts.specs.declared.grammar.Digits.TheVariants.{Kept, AnySize}
use Rattle.semver_texts.specs.declared.dotted.Hyphens.{Hyphens}
use Rattle.semver_texts.specs.declared.dotted.Hyphens.TheVariants.{Any, BetweenRuns}
use Rattle.semver_texts.proofs.Lists.{Passes, all_more, all_zipped, by_test, each_passes, zip_is, zip_more}
use Rattle.semver_texts.proofs.PartRuns.{joined_cut, joined_some, some_cut, split_parts}
use Rattle.semver_texts.proofs.LargeNumbers.{canonical, is_number_of, number_numeral, number_some}
use Rattle.semver_texts.proofs.Numbers.{IsNumber-from_canonical, all_digits, canonical_from_IsNumber, decimal_canonical}
use Rattle.semver_texts.proofs.Numbers.{digits_value_number}
use Rattle.semver_texts.proofs.SpelledVersions.{all_passes, identifier_is_part}
use Rattle.semver_versions.specs.VersionRefs.{identifier_of, dotted_text}
use Rattle.semver_versions.specs.Steps.Reading.{AreIdentifiers, IsKeptBy}

-- ---- one text

-- a text that isn't empty, and has only letters, digits and hyphens
abbrev pub IsPartText : Text → Type 0
IsPartText t = (0 < length t) × Passes is_part_byte t

pub part_bytes : (t : Text) → is_part t ≡ true → IsPartText t
part_bytes [] e = cc
part_bytes (b ∷ t) e = (omega arith, each_passes is_part_byte (b ∷ t) e)

-- an identifier is printed as the text from which it was kept
text_of_kept : (digits : Digits) (t : Text) → identifier_text (identifier_by digits (identifier_of t)) ≡ t
text_of_kept digits t =
    by_test (is_number t)
    (λ number. by_test (nat_lt (digits_value 10 t) (2 ^ 64))
    (λ small. rw (number, small) (of_number digits (digits_value 10 t) ∙ sym (number_numeral t number)))
    (λ large. rw (number, large) (of_text digits (rw (number, large) refl))))
    (λ other. rw other (of_text_alone digits (rw other refl)))
  where
    of_number : (digits : Digits) (n : ℕ) → identifier_text (identifier_by digits (numeric n)) ≡ numeral n
    of_number Kept n = refl
    of_number AnySize n = refl

    of_text : (digits : Digits) → is_large t ≡ true → identifier_text (identifier_by digits (alphanumeric t)) ≡ t
    of_text Kept large = refl
    of_text AnySize large = rw large (sym (number_numeral t (and_parts (is_number t) _ large).0))

    of_text_alone : (digits : Digits) → is_large t ≡ false → identifier_text (identifier_by digits (alphanumeric t)) ≡ t
    of_text_alone Kept other = refl
    of_text_alone AnySize other = rw other refl

-- if digits may be of any size, a text is kept as its number if it is one, and as it is otherwise
of_any_size : (t : Text) → any_size (identifier_of t) ≡ (if is_number t then numeric (digits_value 10 t) else alphanumeric t)
of_any_size t =
    by_test (is_number t)
    (λ number. by_test (nat_lt (digits_value 10 t) (2 ^ 64))
    (λ small. rw (number, small) refl)
    (λ large. rw (number, large) (rw (number, large) refl)))
    (λ other. rw other (rw other refl))

-- `IsKeptBy AnySize` is `IsKeptAs`, which says how SemVer 2.0.0 keeps identifiers
number_part : (t : Text) → is_number t ≡ true → is_part t ≡ true
number_part [] e = cc
number_part (b ∷ t) e =
    all_passes is_part_byte (b ∷ t) (all_more digit_part (b ∷ t) (all_digits (b ∷ t) (and_parts _ _ e).0))
  where
    digit_part : (b : ℕ) → is_ascii_digit b ≡ true → is_part_byte b ≡ true
    digit_part b h = grind (arith, nat_tests)

kept_any : (id : IdentifierValue) (t : Text) → IsKeptAs id t → IsKeptBy AnySize id t
kept_any (numeric n) t w = (number_part t w.0, sym (of_any_size t ∙ rw (w.0, w.1) refl))
kept_any (alphanumeric kept) t w =
    let is = sym w.0 in (
      subst (λ x. is_part x ≡ true) is w.1,
      subst (λ x. alphanumeric kept ≡ any_size (identifier_of x)) is (sym (of_any_size kept ∙ rw w.2 refl)),
    )

any_kept : (id : IdentifierValue) (t : Text) → IsKeptBy AnySize id t → IsKeptAs id t
any_kept id t w = subst (λ x. IsKeptAs x t) (sym (w.1 ∙ of_any_size t)) (by_test (is_number t)
    (λ number. rw number (number, refl))
    (λ other. rw other (refl, w.0, other)))

pub kept_any_all : (ids : List IdentifierValue) (ts : List Text) → AllZip IsKeptAs ids ts → AllZip (IsKeptBy AnySize) ids ts
kept_any_all = zip_more kept_any

pub any_kept_all : (ids : List IdentifierValue) (ts : List Text) → AllZip (IsKeptBy AnySize) ids ts → AllZip IsKeptAs ids ts
any_kept_all = zip_more any_kept

-- `IsKeptBy Kept` is `SpellsIdentifier`, if the text is an identifier of the crate's grammar
number_spelled : (t : Text) → (is_number t && nat_lt (digits_value 10 t) (2 ^ 64)) ≡ true → IsNumber t
number_spelled t y =
    let both = and_parts _ _ y in
    IsNumber-from_canonical t (number_some t both.0) (canonical t both.0 (grind (arith, nat_tests, common_steps)))

pub spelled_kept : (id : IdentifierValue) (t : Text) → SpellsIdentifier id t → IsKeptBy Kept id t
spelled_kept (numeric n) t w =
    let number = is_number_of t (n, w.0, w.1) in
    let value = digits_value_number t n w.0 w.1 in
    (number_part t number, rw (number, value, small n w.0) refl)
  where
    small : (n : ℕ) → n < 2 ^ 64 → nat_lt n (2 ^ 64) ≡ true
    small n below = grind (arith, nat_tests)
spelled_kept (alphanumeric kept) t w = (
  subst (λ x. is_part x ≡ true) (sym w.0) (identifier_is_part kept w.1),
  subst (λ x. alphanumeric kept ≡ identifier_of x) (sym w.0) (by_test (is_number kept && nat_lt (digits_value 10 kept) (2 ^ 64))
      (λ y. absurd (w.2 (number_spelled kept y)))
      (λ n. rw n refl)),
)

kept_spelled : (id : IdentifierValue) (t : Text) → IsKeptBy Kept id t → IsIdentifierText t → SpellsIdentifier id t
kept_spelled id t w is = subst (λ x. SpellsIdentifier x t) (sym w.1) (by_test (is_number t && nat_lt (digits_value 10 t) (2 ^ 64))
    (λ y. let both = and_parts _ _ y in
    let c = canonical t both.0 (grind (arith, nat_tests, common_steps)) in
    rw y (c.small, sym (decimal_canonical t (number_some t both.0) c)))
    (λ n. rw n (
      refl,
      is,
      λ number. let c = canonical_from_IsNumber t number in
          let is_one = is_number_of t number in
          let small = c.small in grind (arith, nat_tests, common_steps),
    )))

pub spelled_kept_all : (ids : List IdentifierValue) (ts : List Text) → AllZip SpellsIdentifier ids ts → AllZip (IsKeptBy Kept) ids ts
spelled_kept_all = zip_more spelled_kept

pub kept_spelled_all : (ids : List IdentifierValue) (ts : List Text) → AllZip (IsKeptBy Kept) ids ts → AllByRecursion IsIdentifierText ts
    → AllZip SpellsIdentifier ids ts
kept_spelled_all [] [] all each = tt
kept_spelled_all [] (t ∷ ts) all each = absurd all
kept_spelled_all (id ∷ ids) [] all each = absurd all
kept_spelled_all (id ∷ ids) (t ∷ ts) all each = (kept_spelled id t all.0 each.0, kept_spelled_all ids ts all.1 each.1)

-- ---- texts between dots

module _ (digits : Digits) where
  pub kept_parts : (ids : List IdentifierValue) (ts : List Text) → AllZip (IsKeptBy digits) ids ts → list_all is_part ts ≡ true
  kept_parts ids ts all = all_passes is_part ts (all_zipped (λ id t kept. kept.0) ids ts all)

  pub kept_texts : (ids : List IdentifierValue) (ts : List Text) → AllZip (IsKeptBy digits) ids ts → ts ≡ map identifier_text ids
  kept_texts = zip_is identifier_text (λ id t kept. sym (text_of_kept digits t) ∙ ap identifier_text (sym kept.1))

pub all_kept : (digits : Digits) (ts : List Text) → list_all is_part ts ≡ true
    → AllZip (IsKeptBy digits) (identifiers_by digits (map identifier_of ts)) ts
all_kept Kept [] e = tt
all_kept Kept (t ∷ ts) e = let both = and_parts (is_part t) _ e in ((both.0, refl), all_kept Kept ts both.1)
all_kept AnySize [] e = tt
all_kept AnySize (t ∷ ts) e = let both = and_parts (is_part t) _ e in ((both.0, refl), all_kept AnySize ts both.1)

pub kept_is : (digits : Digits) (ids : List IdentifierValue) (ts : List Text) → AllZip (IsKeptBy digits) ids ts
    → ids ≡ identifiers_by digits (map identifier_of ts)
kept_is Kept [] [] all = refl
kept_is Kept [] (t ∷ ts) all = absurd all
kept_is Kept (id ∷ ids) [] all = absurd all
kept_is Kept (id ∷ ids) (t ∷ ts) all = (λ i. all.0.1 i ∷ kept_is Kept ids ts all.1 i)
kept_is AnySize [] [] all = refl
kept_is AnySize [] (t ∷ ts) all = absurd all
kept_is AnySize (id ∷ ids) [] all = absurd all
kept_is AnySize (id ∷ ids) (t ∷ ts) all = (λ i. all.0.1 i ∷ kept_is AnySize ids ts all.1 i)

pub identifiers_are_parts : (ts : List Text) → AllByRecursion IsIdentifierText ts → list_all is_part ts ≡ true
identifiers_are_parts ts all = all_passes is_part ts (all_more identifier_is_part ts all)

-- identifiers are parts, whichever hyphens they may have
pub are_parts : (h : Hyphens) (ts : List Text) → AreIdentifiers h ts → list_all is_part ts ≡ true
are_parts Any ts each = each
are_parts BetweenRuns ts each = identifiers_are_parts ts each

pub no_identifiers : (h : Hyphens) → AreIdentifiers h []
no_identifiers Any = refl
no_identifiers BetweenRuns = tt

-- parts that are joined by dots, and then cut at the dots, are the same parts again
pub parts_cut : (ts : List Text) → list_all is_part ts ≡ true → cut_at_dots (join_with_byte 46 ts) ≡ ts
parts_cut [] e = refl
parts_cut (t ∷ ts) e =
    some_cut (join_with_byte 46 (t ∷ ts)) (joined_some t ts (part_bytes t (and_parts _ _ e).0).0) ∙ split_parts t ts e

module _ (digits : Digits) where
  -- identifiers joined by dots are printed as the text from which they were kept
  pub kept_dotted : (ids : List IdentifierValue) (t : Text) → AllZip (IsKeptBy digits) ids (cut_at_dots t) → t ≡ dotted_text ids
  kept_dotted ids t all = sym (joined_cut t) ∙ ap (join_with_byte 46) (kept_texts digits ids _ all)

  pub dotted_kept : (ids : List IdentifierValue) (ts : List Text) → AllZip (IsKeptBy digits) ids ts
      → (dotted_text ids ≡ join_with_byte 46 ts) × AllZip (IsKeptBy digits) ids (cut_at_dots (dotted_text ids))
  dotted_kept ids ts all =
      let is : dotted_text ids ≡ join_with_byte 46 ts = ap (join_with_byte 46) (sym (kept_texts digits ids ts all)) in
      (is, subst (AllZip (IsKeptBy digits) ids) (sym (ap cut_at_dots is ∙ parts_cut ts (kept_parts digits ids ts all))) all)

-- ---- parts after their mark

marked_some : (mark : Text) (ts : List Text) → 0 < length ts → marked mark ts ≡ mark ++ join_with_byte 46 ts
marked_some mark [] some = absurd (omega (arith, some))
marked_some mark (t ∷ ts) some = refl

pub marked_cut : (mark : ℕ) (t : Text) → 0 < length t → marked (mark ∷ []) (cut_at_dots t) ≡ mark ∷ t
marked_cut mark t some =
    rw (some_cut t some) (marked_some (mark ∷ []) _ (omega (arith, length-slice_split is_dot t))
    ∙ rw (join_with_byte-slice_split 46 t))

-- if the mark of a part and the first byte after the part fail a test, so does the first byte of
-- both together, whether or not the part is empty
pub begins_marked : (p : ℕ → Bool) (mark : ℕ) (ts : List Text) (more : Text) → p mark ≡ false → p (slice_index more 0) ≡ false
    → p (slice_index (marked (mark ∷ []) ts ++ more) 0) ≡ false
begins_marked p mark [] more here there = there
begins_marked p mark (t ∷ ts) more here there = here

pub part_fits : (mark : ℕ) (part : Text) → length part ≤ length (marked (mark ∷ []) (cut_at_dots part))
part_fits mark [] = omega arith
part_fits mark (b ∷ part) = omega (arith, ap length (marked_cut mark (b ∷ part) (omega arith)))

-- The text of a term's version with other numbers, and the partial version that it spells.
use Rattle.std.proofs.Common.{◌≡◌, ℕ, ◌<◌, ◌^◌, Bool, true, false, not, ◌||◌, ◌&&◌, if◌then◌else◌, List, [], ◌∷◌, ◌++◌}
use Rattle.std.proofs.Common.{Some, refl, sym, ap, ◌∙◌, subst, arith, append_assoc, codes}
use Rattle.std.specs.Prelude.{decimal, encode_utf8, slice_index}
use Rattle.std.specs.List.{join_with_byte, list_all}
use Rattle.std.proofs.lemmas.Bool.{and_from, and_parts, or_right}
use Rattle.std.proofs.lemmas.Bool.Decides.{nat_tests}
use Rattle.std.proofs.lemmas.Str.{encode_ascii}
use Rattle.semver_texts.specs.Texts.{Text, cut_at_dots, is_number, is_part, marked}
use Rattle.semver_texts.specs.declared.grammar.Grammar.{Grammar}
use Rattle.semver_texts.proofs.Lists.{by_test}
use Rattle.semver_ranges.specs.Partials.{fits_u64}
use Rattle.semver_ranges.specs.RangeTree.{PartialTree, SpellsPartial, components, is_component, is_wildcard, one, qualifier}
use Rattle.semver_ranges.specs.RangeTree.{states_three, three, two}
use Rattle.semver_ranges.proofs.PrintedLaws.{decimal_digits, decimal_number, digits_no_wildcard}
use Rattle.semver_versions.specs.VersionRefs.{VersionRefValue, IsVersionRefIn, dotted_text}
use Rattle.semver_versions.specs.Steps.Reading.{ZerosFit}
use Rattle.semver_versions.proofs.KeptTexts.{dotted_kept, kept_parts, marked_cut, parts_cut}
use Rattle.semver_versions.proofs.ReadTexts.{read_of}
use Rattle.semver_texts.specs.Digits.{digits_in}
use Rattle.range_terms.specs.declared.term.Span.{Span}
use Rattle.range_terms.specs.RewrittenVersions.{text_with}
use Rattle.range_terms.specs.Rewriting as rewriting
use Rattle.range_terms.specs.WrittenTerms.{component_of, version_of}
use Rattle.semver_versions.specs.VersionOrder.{part_text}
use Rattle.range_terms.specs.WrittenTexts.{component_text}

-- a component with another number, a partial version with the numbers and the pre-release of
-- another version, and the text of this partial version
abbrev pub with_number : ℕ → Text → Text
with_number n a = if is_wildcard a then a else decimal n

abbrev pub partial_with : PartialTree → VersionRefValue → PartialTree
partial_with (one a) v = one (with_number v.major a)
partial_with (two a b) v = two (with_number v.major a) (with_number v.minor b)
partial_with (three a b c pre build) v = three (with_number v.major a) (with_number v.minor b) (with_number v.patch c)
    (if states_three (three a b c pre build) then cut_at_dots v.pre else [])
    []

abbrev pub core_with : PartialTree → VersionRefValue → Text
core_with p v = join_with_byte 46 (components (partial_with p v)) ++ qualifier (partial_with p v)

-- ---- one component

pub with_wildcard : (n : ℕ) (a : Text) → is_wildcard a ≡ true → with_number n a ≡ a
with_wildcard n a y = rw y refl

pub with_decimal : (n : ℕ) (a : Text) → is_wildcard a ≡ false → with_number n a ≡ decimal n
with_decimal n a k = rw k refl

wildcard_text : (a : Text) → is_wildcard a ≡ true → encode_utf8 (slice_index a 0) ≡ a
wildcard_text [] e = cc
wildcard_text (b ∷ []) e = let low : b < 128 = grind (arith, nat_tests, e) in encode_ascii b low
wildcard_text (b ∷ c ∷ t) e = cc

pub component_written : (n : ℕ) (a : Text) → component_text (rewriting.component_with n (component_of a)) ≡ with_number n a
component_written n a = by_test (is_wildcard a) (λ y. rw y (wildcard_text a y)) (λ k. rw k refl)

pub number_component : (a : Text) → rewriting.is_number (Some (component_of a)) ≡ not (is_wildcard a)
number_component a = by_test (is_wildcard a) (λ y. rw y refl) (λ k. rw k refl)

-- ---- the text

and_no : (b : Bool) → (b && false) ≡ false
and_no true = refl
and_no false = refl

no_and : (p q r : Bool) → (not p && (not q && not r)) ≡ not (p || (q || r))
no_and true q r = refl
no_and false true r = refl
no_and false false r = refl

part_written : (t : Text) → part_text (codes "-") t ≡ marked (codes "-") (cut_at_dots t)
part_written [] = refl
part_written (b ∷ t) = sym (marked_cut 45 (b ∷ t) (omega arith))

part_if : (b : Bool) (t : Text) → part_text (codes "-") (if b then t else []) ≡ marked (codes "-") (if b then cut_at_dots t else [])
part_if true t = part_written t
part_if false t = refl

two_joined : (x y q : Text) → x ++ ((46 ∷ y) ++ q) ≡ (x ++ (46 ∷ y)) ++ q
two_joined x y q = simp append_assoc

three_joined : (x y z q : Text) → x ++ ((46 ∷ y) ++ ((46 ∷ z) ++ q)) ≡ (x ++ (46 ∷ (y ++ (46 ∷ z)))) ++ q
three_joined x y z q = simp append_assoc

module _ (span : Span) (has_v : Bool) (v : VersionRefValue) where
  abbrev pub sign : Text
  sign = if has_v then codes "v" else []

  pub word_written : (p : PartialTree) → text_with (version_of span has_v p) v ≡ sign ++ core_with p v
  word_written (one a) =
      rw (component_written v.major a, and_no (rewriting.is_number (Some (component_of a)))) refl
  word_written (two a b) =
      rw (
        component_written v.major a,
        component_written v.minor b,
        and_no (rewriting.is_number (Some (component_of b))),
        and_no (rewriting.is_number (Some (component_of a))),
      )
      (ap (λ t. sign ++ t) (two_joined (with_number v.major a) (with_number v.minor b) []))
  word_written (three a b c pre build) =
      rw (
        component_written v.major a,
        component_written v.minor b,
        component_written v.patch c,
        number_component a,
        number_component b,
        number_component c,
        no_and (is_wildcard a) (is_wildcard b) (is_wildcard c),
        part_if (states_three (three a b c pre build)) v.pre,
      )
      (ap (λ t. sign ++ t) (three_joined (with_number v.major a) (with_number v.minor b) (with_number v.patch c) _))

-- ---- a version of a dialect

-- its numbers fit, its pre-release consists of parts, and the grammar allows their leading zeros
pub record IsOfGrammar (d : Grammar) (v : VersionRefValue) : Type 0 where
  pub major : fits_u64 v.major ≡ true
  pub minor : fits_u64 v.minor ≡ true
  pub patch : fits_u64 v.patch ≡ true
  pub parts : list_all is_part (cut_at_dots v.pre) ≡ true
  pub zeros : ZerosFit d (cut_at_dots v.pre)

fits : (n : ℕ) → n < 2 ^ 64 → fits_u64 n ≡ true
fits n below = grind (arith, nat_tests)

pub of_grammar : (d : Grammar) (v : VersionRefValue) (read : Text) → IsVersionRefIn d read v → IsOfGrammar d v
of_grammar d v read (u, spells, e) =
    let w = (read_of d u read spells).2 in
    let ids = u.plain.pre in
    let cut : cut_at_dots (dotted_text ids) ≡ w.pre_texts =
    ap cut_at_dots (dotted_kept (digits_in d) ids w.pre_texts w.pre).0
    ∙ parts_cut w.pre_texts (kept_parts (digits_in d) ids w.pre_texts w.pre) in
    subst (IsOfGrammar d) (sym e) (record {
      major = fits u.plain.major w.major;
      minor = fits u.plain.minor w.minor;
      patch = fits u.plain.patch w.patch;
      parts = ap (list_all is_part) cut ∙ kept_parts (digits_in d) ids w.pre_texts w.pre;
      zeros = subst (ZerosFit d) (sym cut) w.zeros;
    })

-- ---- the partial version

pub same_wildcard : (n : ℕ) (a : Text) → fits_u64 n ≡ true → is_wildcard (with_number n a) ≡ is_wildcard a
same_wildcard n a e = by_test (is_wildcard a)
    (λ y. ap is_wildcard (with_wildcard n a y))
    (λ k. ap is_wildcard (with_decimal n a k) ∙ digits_no_wildcard (decimal n) (decimal_digits n e) ∙ sym k)

component_is : (n : ℕ) (a : Text) → fits_u64 n ≡ true → is_component a ≡ true → is_component (with_number n a) ≡ true
component_is n a e h = by_test (is_wildcard a)
    (λ y. ap is_component (with_wildcard n a y) ∙ h)
    (λ k. ap is_component (with_decimal n a k) ∙ or_right (is_wildcard (decimal n)) (is_number (decimal n)) (decimal_number n e))

pub if_parts : (p : Text → Bool) (b : Bool) (ts : List Text) → list_all p ts ≡ true → list_all p (if b then ts else []) ≡ true
if_parts p true ts e = e
if_parts p false ts e = refl

pub core_spelled : {d : Grammar} (v : VersionRefValue) (p : PartialTree) (word : Text) → IsOfGrammar d v → SpellsPartial p word
    → SpellsPartial (partial_with p v) (core_with p v)
core_spelled v (one a) word of (h, parts, text) =
    (and_from _ _ (component_is v.major a of.major (and_parts (is_component a) _ h).0) refl, tt, refl)
core_spelled v (two a b) word of (h, parts, text) =
    let first = and_parts (is_component a) _ h in
    let other = and_parts (is_component b) _ first.1 in (
      and_from _ _ (component_is v.major a of.major first.0) (and_from _ _ (component_is v.minor b of.minor other.0) refl),
      tt,
      refl,
    )
core_spelled v (three a b c pre build) word of (h, parts, text) =
    let first = and_parts (is_component a) _ h in
    let second = and_parts (is_component b) _ first.1 in
    let third = and_parts (is_component c) _ second.1 in (
      and_from _ _ (component_is v.major a of.major first.0)
          (and_from _ _ (component_is v.minor b of.minor second.0) (and_from _ _ (component_is v.patch c of.patch third.0) refl)),
      (if_parts is_part (states_three (three a b c pre build)) (cut_at_dots v.pre) of.parts, refl),
      refl,
    )

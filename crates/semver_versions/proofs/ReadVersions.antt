-- A version in parts: its numbers, its identifiers after their marks, and the white space after it.
use Rattle.std.proofs.Common.{◌≡◌, ℕ, ◌+◌, ◌≤◌, true, false, List, [], ◌∷◌, ◌++◌, length, map, arith, ap, sym, refl, ◌∙◌}
use Rattle.std.proofs.Common.{subst, length-append, codes, decimal}
use Rattle.std.specs.Prelude.{◌==◌, Some, None, slice_index}
use Rattle.std.specs.Char.{is_ascii_digit}
use Rattle.std.specs.List.{AllZip, join_with_byte}
use Rattle.std.proofs.lemmas.Bool.{eqb-true}
use Rattle.std.proofs.lemmas.Bool.Decides.{nat_tests}
use Rattle.semver_texts.specs.Texts.{Text, BeginsWithNumbers, cut_at_dots, is_dotted_byte, marked}
use Rattle.semver_texts.specs.Versions.{VersionValue}
use Rattle.semver_texts.specs.PrintedText.{identifier_text}
use Rattle.semver_texts.specs.Digits.{digits_in, identifiers_by}
use Rattle.semver_texts.specs.declared.grammar.Digits.{Digits}
use Rattle.semver_texts.specs.declared.grammar.Grammar.{Grammar}
use Rattle.semver_texts.specs.declared.grammar.Grammar.TheVariants.{Crate, Cargo, Npm}
use Rattle.semver_texts.specs.Steps.DottedParts.{marked_part}
use Rattle.semver_texts.proofs.DottedParts.{found_same}
use Rattle.semver_texts.proofs.Numbers.{same_numbers}
use Rattle.semver_versions.specs.VersionRefs.{after_mark, identifier_of, version_ref_after, version_of}
use Rattle.semver_versions.specs.Steps.Reading.{AreAround, AreIdentifiers, AreParts, IsKeptBy, IsBorrowedAt, IsRead, NumbersFit, ZerosFit}
use Rattle.semver_versions.specs.Steps.Reading.{hyphens_of}
use Rattle.semver_versions.specs.Steps.Reading.{version_ref_with}
use Rattle.semver_versions.proofs.CutIdentifiers.{part_found, part_is}
use Rattle.semver_versions.proofs.KeptTexts.{all_kept, are_parts, begins_marked, kept_dotted, kept_is, kept_parts, no_identifiers}
use Rattle.semver_versions.proofs.KeptTexts.{kept_texts, parts_cut}
use Rattle.semver_versions.proofs.WhiteSpaces.{is_outer, none_around, outer_bytes}

-- ---- the text after a version doesn't begin with a byte of a version

after_outer : (d : Grammar) (after : Text) → AreAround d after → is_outer (slice_index after 0) ≡ true
after_outer d [] around = refl
after_outer d (b ∷ after) around = (outer_bytes d (b ∷ after) around).0

no_dotted : (b : ℕ) → is_outer b ≡ true → is_dotted_byte b ≡ false
no_dotted b h = grind (arith, nat_tests)

no_hyphen : (b : ℕ) → is_outer b ≡ true → (b == 45) ≡ false
no_hyphen b h = grind (arith, nat_tests)

no_plus : (b : ℕ) → is_outer b ≡ true → (b == 43) ≡ false
no_plus b h = grind (arith, nat_tests)

no_digit : (b : ℕ) → is_outer b ≡ true → is_ascii_digit b ≡ false
no_digit b h = grind (arith, nat_tests)

-- ---- the parts after the numbers

is_none : {X : Type 0} {x : X} → None ≡ Some x → ⊥
is_none e = cc

module _ (d : Grammar) (text : Text) where
  module _ (pre build : Text) (w : AreParts d text pre build) where
    outer : is_outer (slice_index w.after 0) ≡ true
    outer = after_outer d w.after w.around

    found_pre : marked_part (hyphens_of d) 45 text ≡ Some (pre, marked (codes "+") (cut_at_dots build) ++ w.after)
    found_pre =
        part_is (hyphens_of d) 45 text pre _ w.pre_each w.split
        (begins_marked is_dotted_byte 43 (cut_at_dots build) w.after refl (no_dotted (slice_index w.after 0) outer))
        (begins_marked (λ b. b == 45) 43 (cut_at_dots build) w.after refl (no_hyphen (slice_index w.after 0) outer))

    found_build : marked_part (hyphens_of d) 43 (marked (codes "+") (cut_at_dots build) ++ w.after) ≡ Some (build, w.after)
    found_build =
        part_is (hyphens_of d) 43 _ build w.after w.build_each refl (no_dotted (slice_index w.after 0) outer)
        (no_plus (slice_index w.after 0) outer)

  pub no_pre : marked_part (hyphens_of d) 45 text ≡ None → (pre build : Text) → ¬ (AreParts d text pre build)
  no_pre none pre build w = absurd (is_none (sym none ∙ found_pre pre build w))

  module _ (found rest : Text) (at : marked_part (hyphens_of d) 45 text ≡ Some (found, rest)) where
    pub no_build : marked_part (hyphens_of d) 43 rest ≡ None → (pre build : Text) → ¬ (AreParts d text pre build)
    no_build none pre build w =
        absurd (is_none (sym none ∙ ap (marked_part (hyphens_of d) 43) (found_same (sym at ∙ found_pre pre build w)).1
        ∙ found_build pre build w))

    module _ (also left : Text) (there : marked_part (hyphens_of d) 43 rest ≡ Some (also, left)) where
      pub not_taken : (AreAround d left → ZerosFit d (cut_at_dots found) → ⊥) → (pre build : Text) → ¬ (AreParts d text pre build)
      not_taken other pre build w =
          let first = found_same (sym at ∙ found_pre pre build w) in
          let second = found_same (sym there ∙ ap (marked_part (hyphens_of d) 43) first.1 ∙ found_build pre build w) in
          other (subst (AreAround d) (sym second.1) w.around) (subst (λ t. ZerosFit d (cut_at_dots t)) (sym first.0) w.zeros)

      pub parts_found : AreAround d left → ZerosFit d (cut_at_dots found) → AreParts d text found also
      parts_found around zeros =
          let pre = part_found (hyphens_of d) 45 text found rest at in
          let build = part_found (hyphens_of d) 43 rest also left there in
          record {
            after = left;
            pre_each = pre.0;
            build_each = build.0;
            zeros = zeros;
            around = around;
            split = pre.1 ∙ ap (λ t. marked (codes "-") (cut_at_dots found) ++ t) build.1;
          }

-- the parts with their marks aren't longer than the text after the numbers
pub parts_fit : (d : Grammar) (rest pre build : Text) → AreParts d rest pre build
    → length (marked (codes "-") (cut_at_dots pre)) + length (marked (codes "+") (cut_at_dots build)) ≤ length rest
parts_fit d rest pre build w =
    omega (
      arith,
      ap length w.split,
      length-append (marked (codes "-") (cut_at_dots pre)) (marked (codes "+") (cut_at_dots build) ++ w.after),
      length-append (marked (codes "+") (cut_at_dots build)) w.after,
    )

-- ---- a version, from its numbers and its parts

abbrev pub version_with : Digits → ℕ → ℕ → ℕ → Text → Text → VersionValue
version_with digits major minor patch pre build = version_of (version_ref_with digits major minor patch 0 pre build)

module _ (d : Grammar) (text rest pre build : Text) (major minor patch : ℕ) (n : BeginsWithNumbers text major minor patch rest)
    (w : AreParts d rest pre build) where
  abbrev digits : Digits
  digits = digits_in d

  pre_kept : AllZip (IsKeptBy digits) (identifiers_by digits (map identifier_of (cut_at_dots pre))) (cut_at_dots pre)
  pre_kept = all_kept digits (cut_at_dots pre) (are_parts (hyphens_of d) _ w.pre_each)

  build_kept : AllZip (IsKeptBy digits) (identifiers_by digits (map identifier_of (cut_at_dots build))) (cut_at_dots build)
  build_kept = all_kept digits (cut_at_dots build) (are_parts (hyphens_of d) _ w.build_each)

  abbrev three : Text
  three = join_with_byte 46 (map decimal (major ∷ minor ∷ patch ∷ []))

  is_read : NumbersFit d major minor patch → IsRead d (version_with digits major minor patch pre build) text
  is_read fits = record {
    pre_texts = cut_at_dots pre;
    build_texts = cut_at_dots build;
    after = w.after;
    major = n.major_fits;
    minor = n.minor_fits;
    patch = n.patch_fits;
    fits = fits;
    pre = pre_kept;
    pre_each = w.pre_each;
    zeros = w.zeros;
    build = build_kept;
    build_each = w.build_each;
    around = w.around;
    whole = n.split ∙ ap (λ t. three ++ t) w.split;
  }

  its_ref : (before numbers_end : ℕ) → numbers_end + length rest ≡ before + length text
      → version_ref_with digits major minor patch numbers_end pre build
      ≡ version_ref_after digits before (version_with digits major minor patch pre build)
  its_ref before numbers_end at =
      let ids = identifiers_by digits (map identifier_of (cut_at_dots pre)) in
      let pre_is = kept_dotted digits ids pre pre_kept in
      let build_is = kept_dotted digits (identifiers_by digits (map identifier_of (cut_at_dots build))) build build_kept in
      let place : numbers_end ≡ before + length three = omega (arith, at, ap length n.split, length-append three rest) in
      let part : Text = marked (codes "-") (map identifier_text ids) in
      let place_after : numbers_end + length (marked (codes "-") (cut_at_dots pre)) ≡ before + length (three ++ part) =
      omega (
        arith,
        place,
        ap (λ ts. length (marked (codes "-") ts)) (kept_texts digits ids (cut_at_dots pre) pre_kept),
        length-append three part,
      ) in
      (λ i. record {
        major = major;
        minor = minor;
        patch = patch;
        pre = pre_is i;
        build = build_is i;
        pre_offset = after_mark (place i) (pre_is i);
        build_offset = after_mark (place_after i) (build_is i);
        digits = digits;
      })

  pub has_version_ref : NumbersFit d major minor patch → (before numbers_end : ℕ) → numbers_end + length rest ≡ before + length text
      → IsBorrowedAt d before text (Some (version_ref_with digits major minor patch numbers_end pre build))
  has_version_ref fits before numbers_end at =
      (version_with digits major minor patch pre build, is_read fits, its_ref before numbers_end at)

-- there are no parts if the text after the numbers is empty
pub no_parts : (d : Grammar) (text : Text) → (length text == 0) ≡ true → AreParts d text [] []
no_parts d [] e = record {
  after = [];
  pre_each = no_identifiers (hyphens_of d);
  build_each = no_identifiers (hyphens_of d);
  zeros = no_zeros d;
  around = none_around d;
  split = refl;
}
  where
    no_zeros : (d : Grammar) → ZerosFit d []
    no_zeros Crate = tt
    no_zeros Cargo = refl
    no_zeros Npm = refl
no_parts d (b ∷ text) e = absurd (omega (arith, eqb-true (length (b ∷ text)) 0 e))

-- ---- the numbers and the parts of a version

module _ {d : Grammar} {v : VersionValue} {text : Text} (w : IsRead d v text) where
  abbrev pub marked_rest : Text
  marked_rest = marked (codes "-") w.pre_texts ++ (marked (codes "+") w.build_texts ++ w.after)

  abbrev pub pre_of : Text
  pre_of = join_with_byte 46 w.pre_texts

  abbrev pub build_of : Text
  build_of = join_with_byte 46 w.build_texts

  pre_cut : cut_at_dots pre_of ≡ w.pre_texts
  pre_cut = parts_cut w.pre_texts (kept_parts (digits_in d) v.plain.pre _ w.pre)

  build_cut : cut_at_dots build_of ≡ w.build_texts
  build_cut = parts_cut w.build_texts (kept_parts (digits_in d) v.build _ w.build)

  pub its_numbers : BeginsWithNumbers text v.plain.major v.plain.minor v.plain.patch marked_rest
  its_numbers = record {
    major_fits = w.major;
    minor_fits = w.minor;
    patch_fits = w.patch;
    split = w.whole;
    ended = begins_marked is_ascii_digit 45 w.pre_texts _ refl
        (begins_marked is_ascii_digit 43 w.build_texts w.after refl (no_digit (slice_index w.after 0) (after_outer d w.after w.around)));
  }

  its_parts : AreParts d marked_rest pre_of build_of
  its_parts = record {
    after = w.after;
    pre_each = subst (AreIdentifiers (hyphens_of d)) (sym pre_cut) w.pre_each;
    build_each = subst (AreIdentifiers (hyphens_of d)) (sym build_cut) w.build_each;
    zeros = subst (ZerosFit d) (sym pre_cut) w.zeros;
    around = w.around;
    split = rw (pre_cut, build_cut) refl;
  }

  it_is : v ≡ version_with (digits_in d) v.plain.major v.plain.minor v.plain.patch pre_of build_of
  it_is =
      let by = λ (ts : List Text). identifiers_by (digits_in d) (map identifier_of ts) in
      let pre_is : v.plain.pre ≡ by (cut_at_dots pre_of) = kept_is (digits_in d) v.plain.pre _ w.pre ∙ ap by (sym pre_cut) in
      let build_is : v.build ≡ by (cut_at_dots build_of) = kept_is (digits_in d) v.build _ w.build ∙ ap by (sym build_cut) in
      (λ i. record {
        plain = record { major = v.plain.major; minor = v.plain.minor; patch = v.plain.patch; pre = pre_is i };
        build = build_is i;
      })

  -- if the text begins with three numbers, they are those of the version, so they are within the limit
  -- of the grammar, and the parts of the version follow them
  module _ (rest : Text) (major minor patch : ℕ) (n : BeginsWithNumbers text major minor patch rest) where
    same : (v.plain.major ≡ major) × (v.plain.minor ≡ minor) × (v.plain.patch ≡ patch) × (marked_rest ≡ rest)
    same = same_numbers text _ _ _ major minor patch _ rest its_numbers n

    pub they_fit : NumbersFit d major minor patch
    they_fit = rw (← (same.0), ← (same.1), ← (same.2)) w.fits

    pub there_are_parts : AreParts d rest pre_of build_of
    there_are_parts = subst (λ t. AreParts d t pre_of build_of) same.3 its_parts

-- ---- a text is read as at most one version

pub one_read : (d : Grammar) (v u : VersionValue) (text : Text) → IsRead d v text → IsRead d u text → v ≡ u
one_read d v u text a b =
    let same = same_numbers text _ _ _ _ _ _ _ _ (its_numbers a) (its_numbers b) in
    let parts = subst (λ t. AreParts d t (pre_of a) (build_of a)) same.3 (its_parts a) in
    let first = found_same (sym (found_pre d _ _ _ parts) ∙ found_pre d _ _ _ (its_parts b)) in
    let second = found_same (sym (found_build d _ _ _ parts) ∙ ap (marked_part (hyphens_of d) 43) first.1
    ∙ found_build d _ _ _ (its_parts b)) in
    it_is a ∙ (λ i. version_with (digits_in d) (same.0 i) (same.1 i) (same.2 i) (first.0 i) (second.0 i)) ∙ sym (it_is b)

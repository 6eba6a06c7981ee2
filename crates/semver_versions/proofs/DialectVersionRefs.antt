-- The borrowed version of a text in a dialect: its version, and the offsets of its parts.
use Rattle.std.proofs.Common.{codes, ◌≡◌, ℕ, true, false, List, [], ◌∷◌, ◌++◌, length, take, refl, ◌∙◌, suc, arith, ap, sym}
use Rattle.std.proofs.Common.{subst, append_assoc, append-nil, length-append}
use Rattle.std.specs.Prelude.{◌↔◌, Option, Some, None, IfSome, slice_index}
use Rattle.std.specs.Char.{is_ascii_digit}
use Rattle.std.specs.List.{AllZip, join_with_byte, prefix_len}
use Rattle.std.proofs.lemmas.Bool.Decides.{nat_tests}
use Rattle.std.proofs.lemmas.List.{take_at, drop_at}
use Rattle.semver_texts.specs.Texts.{Text, is_space, marked}
use Rattle.semver_texts.specs.Digits.{digits_in}
use Rattle.semver_texts.specs.declared.grammar.Digits.{Digits}
use Rattle.semver_texts.specs.declared.grammar.Digits.TheVariants.{Kept}
use Rattle.semver_texts.specs.ToolVersions.{IsVersionTextIn, SpellsIn, before_numbers}
use Rattle.semver_texts.specs.Versions.{IdentifierValue, VersionValue}
use Rattle.semver_texts.specs.VersionGrammar.{SpellsVersion}
use Rattle.semver_texts.specs.declared.grammar.Grammar.{Grammar}
use Rattle.semver_texts.specs.declared.grammar.Grammar.TheVariants.{Crate}
use Rattle.semver_texts.proofs.Lists.{prefix_is}
use Rattle.semver_versions.specs.VersionRefs.{VersionRefValue, IsVersionRefIn, IsVersionRefOf, StandsAt, after_mark, dotted_text, version_ref_after}
use Rattle.semver_versions.specs.VersionRefs.{version_of}
use Rattle.semver_versions.specs.Steps.Reading.{IsKeptBy, IsBorrowedBy}
use Rattle.semver_versions.proofs.KeptTexts.{dotted_kept, kept_is, kept_texts}
use Rattle.semver_versions.proofs.ReadTexts.{Digit, crate_before, crate_read, digit_begins, front_len, front_of, front_then}
use Rattle.semver_versions.proofs.ReadTexts.{one_version_in, read_of, three}
use Rattle.semver_versions.proofs.ReadVersions.{its_numbers}

-- ---- the version of a borrowed version

-- the version of the borrowed version of v is v
module _ (digits : Digits) where
  after_is : (before : ℕ) (v : VersionValue) (ts us : List Text) → AllZip (IsKeptBy digits) v.plain.pre ts
      → AllZip (IsKeptBy digits) v.build us → v ≡ version_of (version_ref_after digits before v)
  after_is before v ts us pre build =
      let pre_is : v.plain.pre ≡ (version_of (version_ref_after digits before v)).plain.pre = kept_is digits v.plain.pre _
      (dotted_kept digits v.plain.pre ts pre).1 in
      let build_is : v.build ≡ (version_of (version_ref_after digits before v)).build = kept_is digits v.build _
      (dotted_kept digits v.build us build).1 in
      (λ i. record {
        plain = record { major = v.plain.major; minor = v.plain.minor; patch = v.plain.patch; pre = pre_is i };
        build = build_is i;
      })

pub borrowed_version : (d : Grammar) (before : ℕ) (o : VersionRefValue) (u v : VersionValue) (text : Text) → SpellsIn d u text
    → o ≡ version_ref_after (digits_in d) before u → SpellsIn d v text → v ≡ version_of o
borrowed_version d before o u v text a is b =
    let read = (read_of d v text b).2 in
    after_is (digits_in d) before v read.pre_texts read.build_texts read.pre read.build
    ∙ ap version_of (ap (version_ref_after (digits_in d) before) (one_version_in d v u text b a) ∙ sym is)

pub its_version_in : (d : Grammar) (o : VersionRefValue) (v : VersionValue) (text : Text) → IsVersionRefIn d text o → SpellsIn d v text
    → v ≡ version_of o
its_version_in d o v text is w = borrowed_version d (before_numbers text) o is.0 v text is.1 is.2 w

-- in the crate's dialect only white space may be before a version, so `IsVersionRefIn` is
-- `IsVersionRefOf`
space_no_digit : (b : ℕ) → is_ascii_digit b ≡ true → is_space b ≡ false
space_no_digit b h = grind (arith, nat_tests)

pub no_space : {text : Text} → Digit text → is_space (slice_index text 0) ≡ false
no_space d = ap (λ t. is_space (slice_index t 0)) d.whole ∙ space_no_digit d.byte d.digit

spaces_before : (v : VersionValue) (text : Text) → SpellsVersion v text → prefix_len is_space text ≡ before_numbers text
spaces_before v text w =
    let digit = digit_begins (its_numbers (crate_read w)) in
    ap (prefix_len is_space) (w.whole ∙ append_assoc w.before w.core w.after)
    ∙ prefix_is is_space w.before (w.core ++ w.after) w.spaces_before refl (no_space digit)
    ∙ sym (front_len Crate text (w.core ++ w.after) (crate_before w) digit ∙ ap length (append-nil w.before))

pub same_version_ref : (o : VersionRefValue) (text : Text) → IsVersionRefIn Crate text o ↔ IsVersionRefOf text o
same_version_ref o text = (
  λ is. (is.0, is.1, is.2 ∙ ap (λ k. version_ref_after Kept k is.0) (sym (spaces_before is.0 text is.1))),
  λ is. (is.0, is.1, is.2 ∙ ap (λ k. version_ref_after Kept k is.0) (spaces_before is.0 text is.1)),
)

-- ---- the offsets of the parts

-- a part is in the text right after its mark
stands : (mark place : ℕ) (part lead rest text : Text) → text ≡ lead ++ ((mark ∷ part) ++ rest) → place ≡ length lead
    → StandsAt (after_mark place part) part text
stands mark place [] lead rest text whole at = refl
stands mark place (b ∷ part) lead rest text whole at =
    rw (whole ∙ regroup lead (b ∷ part) rest) (ap (take (length (b ∷ part)))
    (drop_at _ ((b ∷ part) ++ rest) (suc place) (omega (arith, at, length-append lead (mark ∷ []))))
    ∙ take_at (b ∷ part) rest (length (b ∷ part)) refl)
  where
    regroup : (a b c : Text) → a ++ ((mark ∷ b) ++ c) ≡ (a ++ (mark ∷ [])) ++ (b ++ c)
    regroup a b c = simp append_assoc

-- the identifiers of a part are in the text right after their mark, which is at the offset `place`
part_stands : (digits : Digits) (mark place : ℕ) (ids : List IdentifierValue) (ts : List Text) (lead rest text : Text)
    → AllZip (IsKeptBy digits) ids ts
    → text ≡ lead ++ (marked (mark ∷ []) ts ++ rest) → place ≡ length lead
    → StandsAt (after_mark place (dotted_text ids)) (dotted_text ids) text
part_stands digits mark place [] [] lead rest text all whole at = refl
part_stands digits mark place [] (t ∷ ts) lead rest text all whole at = absurd all
part_stands digits mark place (id ∷ ids) [] lead rest text all whole at = absurd all
part_stands digits mark place (id ∷ ids) (t ∷ ts) lead rest text all whole at =
    rw (dotted_kept digits (id ∷ ids) (t ∷ ts) all).0 (stands mark place (join_with_byte 46 (t ∷ ts)) lead rest text whole at)

to_pre : (a b c : Text) → a ++ (b ++ c) ≡ (a ++ b) ++ c
to_pre a b c = simp append_assoc

to_build : (a b c e : Text) → a ++ (b ++ (c ++ e)) ≡ (a ++ (b ++ c)) ++ e
to_build a b c e = simp append_assoc

both_stand : (d : Grammar) (text : Text) (o : VersionRefValue) → IsVersionRefIn d text o
    → StandsAt o.pre_offset o.pre text × StandsAt o.build_offset o.build text
both_stand d text o (v, spells, e) =
    let read = read_of d v text spells in
    let w = read.2 in
    let front = front_of d text read.0 read.1 in
    let whole = front_then d text read.0 read.1 ∙ ap (λ t. front ++ t) w.whole in
    let at = front_len d text read.0 read.1 (digit_begins (its_numbers w)) in
    let pre = marked (codes "-") w.pre_texts in
    rw e (
      part_stands (digits_in d) 45 _ v.plain.pre w.pre_texts (front ++ three v) (marked (codes "+") w.build_texts ++ w.after) text w.pre
          (whole ∙ to_pre front (three v) (pre ++ (marked (codes "+") w.build_texts ++ w.after)))
          (omega (arith, at, length-append front (three v))),
      part_stands (digits_in d) 43 _ v.build w.build_texts (front ++ (three v ++ pre)) w.after text w.build
          (whole ∙ to_build front (three v) pre (marked (codes "+") w.build_texts ++ w.after))
          (omega (
            arith,
            at,
            ap (λ ts. length (three v ++ marked (codes "-") ts)) (kept_texts (digits_in d) v.plain.pre w.pre_texts w.pre),
            length-append front (three v ++ pre),
          )),
    )

-- ---- the result

module _ (d : Grammar) (text : Text) where
  pub exactly_in : (found : Option VersionRefValue) → IsBorrowedBy d text found → (o : VersionRefValue) → (found ≡ Some o) ↔ IsVersionRefIn d text o
  exactly_in None none o = (λ e. cc, λ w. absurd (none (w.0, w.1)))
  exactly_in (Some found) is o = (
    λ e. subst (IsVersionRefIn d text) (same e) is,
    λ w. rw (is.2 ∙ ap (version_ref_after (digits_in d) _) (one_version_in d is.0 w.0 text is.1 w.1) ∙ sym w.2),
  )
    where
      same : {x y : VersionRefValue} → Some x ≡ Some y → x ≡ y
      same e = cc

  pub none_in : (found : Option VersionRefValue) → IsBorrowedBy d text found → (found ≡ None) ↔ ¬ (IsVersionTextIn d text)
  none_in None none = (λ e. none, λ n. refl)
  none_in (Some o) is = (λ e. cc, λ none. absurd (none (is.0, is.1)))

  pub stand_in : (found : Option VersionRefValue) → IsBorrowedBy d text found
      → IfSome found (λ o. StandsAt o.pre_offset o.pre text × StandsAt o.build_offset o.build text)
  stand_in None none = tt
  stand_in (Some o) is = both_stand d text o is

  pub spelled_in : (found : Option VersionRefValue) → IsBorrowedBy d text found → IfSome found (λ o. SpellsIn d (version_of o) text)
  spelled_in None none = tt
  spelled_in (Some o) is = subst (λ v. SpellsIn d v text) (its_version_in d o is.0 text is is.1) is.1

-- The version of a borrowed version in the crate's dialect.
use Rattle.std.proofs.Common.{◌≡◌, ◌<◌, ℕ, List, [], ◌∷◌, length, map, sym, refl, ap, ◌∙◌, arith, inl, inr, ⊎_elim, ◌⊎◌}
use Rattle.std.specs.Prelude.{◌==◌, ◌↔◌, Option, Some, None, Result, Ok, Err, IfErr, IfOk, IfSome}
use Rattle.std.proofs.lemmas.List.{length-map}
use Rattle.semver_texts.specs.Digits.{any_size, identifiers_by, version_by}
use Rattle.semver_texts.specs.Texts.{Text, cut_at_dots, is_empty}
use Rattle.semver_texts.specs.declared.grammar.Digits.{Digits}
use Rattle.semver_texts.specs.declared.grammar.Digits.TheVariants.{Kept, AnySize}
use Rattle.semver_texts.specs.VersionGrammar.{SpellsVersion}
use Rattle.semver_texts.specs.Versions.{IdentifierValue, VersionValue}
use Rattle.semver_texts.specs.declared.grammar.Grammar.TheVariants.{Crate}
use Rattle.std.proofs.lemmas.Bool.Decides.{nat_tests}
use Rattle.semver_texts.proofs.PartRuns.{pieces}
use Rattle.semver_versions.specs.VersionRefs.{VersionRefValue, IsVersionRefAfter, identifier_of, kept_version_of, version_of}
use Rattle.semver_versions.proofs.DialectVersionRefs.{borrowed_version}
use Rattle.semver_versions.proofs.ReadTexts.{one_version_in}

module _ (before : ℕ) (text : Text) (v : VersionValue) (w : SpellsVersion v text) (o : VersionRefValue)
    (is : IsVersionRefAfter before text o) where
  pub its_version : v ≡ version_of o
  its_version = borrowed_version Crate before o is.0 v text is.1 is.2 w

-- ---- a part has identifiers if and only if its text isn't empty

-- the number of identifiers doesn't depend on how digits are read
by_length : (digits : Digits) (ids : List IdentifierValue) → length (identifiers_by digits ids) ≡ length ids
by_length Kept ids = refl
by_length AnySize ids = length-map ids any_size

by_none : (digits : Digits) → identifiers_by digits [] ≡ []
by_none Kept = refl
by_none AnySize = refl

by_empty : (digits : Digits) (ids : List IdentifierValue) → is_empty (identifiers_by digits ids) ≡ is_empty ids
by_empty Kept ids = refl
by_empty AnySize [] = refl
by_empty AnySize (id ∷ ids) = refl

pub none_where_empty : (digits : Digits) (t : Text)
    → (length t == 0) ≡ is_empty (identifiers_by digits (map identifier_of (cut_at_dots t)))
none_where_empty digits [] = sym (by_empty digits [])
none_where_empty digits (b ∷ t) =
    rw (by_empty digits (map identifier_of (cut_at_dots (b ∷ t)))) (rw (pieces (b ∷ t)) (grind (arith, nat_tests)))

some_where : (digits : Digits) (t : Text) (ids : List IdentifierValue) → ids ≡ identifiers_by digits (map identifier_of (cut_at_dots t))
    → 0 < length t → 0 < length ids
some_where digits [] ids is some = absurd (omega (arith, some))
some_where digits (b ∷ t) ids is some =
    omega (
      arith,
      ap length is,
      by_length digits (map identifier_of (cut_at_dots (b ∷ t))),
      ap (λ ts. length (map identifier_of ts)) (pieces (b ∷ t)),
    )

empty_where : (digits : Digits) (t : Text) (ids : List IdentifierValue) → ids ≡ identifiers_by digits (map identifier_of (cut_at_dots t))
    → (t ≡ []) ↔ (ids ≡ [])
empty_where digits [] ids is = (λ e. is ∙ by_none digits, λ e. refl)
empty_where digits (b ∷ t) ids is =
    (λ e. cc, λ e. absurd (omega (arith, ap length e, some_where digits (b ∷ t) ids is (omega arith))))

module _ (text : Text) (v : VersionValue) (w : SpellsVersion v text) where
  pub no_pre_release : (found : Option VersionRefValue) → IfSome found (λ o. SpellsVersion (version_of o) text)
      → IfSome found (λ o. (o.pre ≡ []) ↔ (v.plain.pre ≡ []))
  no_pre_release None is = tt
  no_pre_release (Some o) is =
      empty_where o.digits o.pre v.plain.pre (ap (λ (u : VersionValue). u.plain.pre) (one_version_in Crate v (version_of o) text w is))

  pub no_build : (found : Option VersionRefValue) → IfSome found (λ o. SpellsVersion (version_of o) text)
      → IfSome found (λ o. (o.build ≡ []) ↔ (v.build ≡ []))
  no_build None is = tt
  no_build (Some o) is = empty_where o.digits o.build v.build (ap (λ (u : VersionValue). u.build) (one_version_in Crate v (version_of o)
      text w is))

pub has_some : (before : ℕ) (text : Text) (o : VersionRefValue) → IsVersionRefAfter before text o → (0 < length o.pre) ⊎ (0 < length o.build)
    → (v : VersionValue) × SpellsVersion v text × ((0 < length v.plain.pre) ⊎ (0 < length v.build))
has_some before text o is some =
    let e = its_version before text is.0 is.1 o is in (
      is.0,
      is.1,
      ⊎_elim (λ pre. inl (some_where o.digits o.pre is.0.plain.pre (ap (λ (u : VersionValue). u.plain.pre) e) pre))
          (λ build. inr (some_where o.digits o.build is.0.build (ap (λ (u : VersionValue). u.build) e) build)) some,
    )

-- ---- the result of a call

pub if_ok_more : {A E : Type 0} {P Q : A → Type 0} (r : Result A E) → ((x : A) → P x → Q x) → IfOk r P → IfOk r Q
if_ok_more (Ok x) more p = more x p
if_ok_more (Err e) more p = tt

pub if_err : {A E P : Type 0} (r : Result A E) → P → IfErr r (λ _. P)
if_err (Ok x) p = tt
if_err (Err e) p = p

pub exactly : (text : Text) (u : VersionValue) → SpellsVersion u text → (v : VersionValue) → (Some u ≡ Some v) ↔ SpellsVersion v text
exactly text u spells v = (
  λ e. rw (same e) at spells,
  λ s. rw (one_version_in Crate u v text spells s),
)
  where
    same : {u w : VersionValue} → Some u ≡ Some w → u ≡ w
    same e = cc

-- the version of a borrowed version in the crate's dialect has the identifiers as they are kept
pub kept_of : (before : ℕ) (text : Text) (v : VersionValue) → SpellsVersion v text → (o : VersionRefValue) → IsVersionRefAfter before text o
    → v ≡ kept_version_of o
kept_of before text v w o is =
    its_version before text v w o is ∙ ap (λ digits. version_by digits (kept_version_of o)) (ap (λ (x : VersionRefValue). x.digits) is.2)

-- How the lookup of a borrowed version relates to that of its version, and a binary search among
-- the boundaries of pre-releases.
use Rattle.std.proofs.Common.{◌≡◌, ◌↔◌, ℕ, ◌+◌, ◌<◌, ◌≤◌, Bool, true, false, not, List, [], ◌∷◌, length, get_or, refl, sym, ap, ◌∙◌, map}
use Rattle.std.proofs.Common.{true≢false}
use Rattle.std.proofs.Common.{arith, is_ge}
use Rattle.std.specs.List.{AllWithin}
use Rattle.std.specs.Prelude.{if◌then◌else◌}
use Rattle.std.proofs.lemmas.List.{get_or_default}
use Rattle.semver_versions.specs.VersionRefs.{VersionRefValue, IsVersionRefIn, IsVersionRefOf, kept_version_of, version_of}
use Rattle.semver_texts.specs.Digits.{version_by}
use Rattle.semver_texts.specs.Precedence.{precedence}
use Rattle.semver_texts.specs.Steps.PrecedenceLaws.{precedence_total}
use Rattle.semver_texts.specs.Texts.{Text, is_empty}
use Rattle.semver_texts.specs.ToolVersions.{SpellsIn}
use Rattle.semver_texts.specs.VersionGrammar.{SpellsVersion}
use Rattle.semver_texts.specs.Versions.{IdentifierValue, PlainVersion, VersionValue}
use Rattle.semver_texts.specs.declared.grammar.Digits.TheVariants.{Kept}
use Rattle.semver_texts.specs.declared.grammar.Grammar.TheVariants.{Crate}
use Rattle.semver_versions.specs.declared.read_version.ReadVersion.{ReadVersion}
use Rattle.semver_versions.specs.ReadVersions.{read_plain}
use Rattle.version_sets.specs.Boundaries.{is_inside, IsIncreasing}
use Rattle.version_sets.specs.VersionSets.{SetValue, contains, contains_kept}
use Rattle.version_sets.proofs.SearchLaws.{is_passed, passed_before, reversed_ge}

-- a release consists of its three numbers
pub release_is : (v : PlainVersion) (answer : Bool) → answer ≡ false → answer ≡ not (is_empty v.pre) → (major minor patch : ℕ)
    → major ≡ v.major → minor ≡ v.minor → patch ≡ v.patch
    → ◌≡◌ {A = PlainVersion} (record { major = major; minor = minor; patch = patch; pre = [] }) v
release_is v answer says told major minor patch at_major at_minor at_patch = λ i. record {
  major = at_major i;
  minor = at_minor i;
  patch = at_patch i;
  pre = none v.pre (sym says ∙ told) i;
}
  where
    none : (pre : List IdentifierValue) → false ≡ not (is_empty pre) → [] ≡ pre
    none [] e = refl
    none (id ∷ pre) e = absurd (true≢false (sym e))

-- the boundaries of the pre-releases decide whether a pre-release is in the set
pub pre_release_has : (v : PlainVersion) (set : SetValue) (answer : Bool) → answer ≡ true → answer ≡ not (is_empty v.pre)
    → is_inside precedence set.pre_releases v ≡ contains set v
pre_release_has v set answer says told = at (is_empty v.pre) (sym says ∙ told)
  where
    at : (b : Bool) → true ≡ not b
        → is_inside precedence set.pre_releases v
        ≡ (if b then is_inside precedence set.releases v else is_inside precedence set.pre_releases v)
    at true e = absurd (true≢false e)
    at false e = refl

-- a result that is right for a borrowed version is right for the version that its text spells
pub of_texts : (set : SetValue) (o : VersionRefValue)
    → ((v : VersionValue) (text : Text) → IsVersionRefIn Crate text o → SpellsIn Crate v text → v ≡ version_of o)
    → ((text : Text) → IsVersionRefIn Crate text o ↔ IsVersionRefOf text o) → (answer : Bool)
    → answer ≡ contains_kept set (kept_version_of o).plain
    → (text : Text) (v : VersionValue) → IsVersionRefOf text o → SpellsVersion v text → answer ≡ contains_kept set v.plain
of_texts set o same same_ref answer told text v borrowed spells =
    let inside = (same_ref text).1 borrowed in
    let (w, spelled, is) = inside in
    let kept : o.digits ≡ Kept = ap (λ (p : VersionRefValue). p.digits) is in
    told ∙ ap (λ (w : VersionValue). contains_kept set w.plain)
    (sym (same v text inside spells ∙ ap (λ d. version_by d (kept_version_of o)) kept))

-- ---- a search among boundaries

-- whether a boundary is at or below a version
abbrev pub is_reached : PlainVersion → ReadVersion → Bool
is_reached v = is_passed precedence precedence_total read_plain v

-- the boundaries before the index `low` are at or below the version, and those from the index
-- `high` on are above it
abbrev pub IsNarrowed : PlainVersion → List ReadVersion → ℕ → ℕ → Type 0
IsNarrowed v boundaries low high =
    AllWithin (λ s. is_reached v s ≡ true) boundaries 0 low × AllWithin (λ s. is_reached v s ≡ false) boundaries high (length boundaries)

module _ (v : PlainVersion) (xs : List ReadVersion) where
  module _ (increase : IsIncreasing precedence (map read_plain xs)) (low high middle : ℕ) (known : IsNarrowed v xs low high)
      (x : ReadVersion) (inside : middle < length xs) (is : x ≡ get_or xs middle x) (answer : Bool)
      (told : answer ≡ is_ge (precedence v (read_plain x))) where
    at_middle : (d : ReadVersion) → is_reached v (get_or xs middle d) ≡ answer
    at_middle d =
        ap (is_reached v) (get_or_default xs middle d x inside ∙ sym is) ∙ sym (reversed_ge (precedence (read_plain x) v))
        ∙ ap is_ge (sym (precedence_total.antisymm v (read_plain x))) ∙ sym told

    pub narrowed_below : answer ≡ true → IsNarrowed v xs (middle + 1) high
    narrowed_below says = (
      λ k d low high. passed_before precedence precedence_total read_plain v xs increase k middle d (omega arith) inside
          (at_middle d ∙ says),
      known.1,
    )

    pub narrowed_above : answer ≡ false → IsNarrowed v xs low middle
    narrowed_above says = (known.0, λ k d low high. at k d low high (is_reached v (get_or xs k d)) refl)
      where
        at : (k : ℕ) (d : ReadVersion) → middle ≤ k → k < length xs → (b : Bool) → is_reached v (get_or xs k d) ≡ b → b ≡ false
        at k d low high true e =
            absurd (true≢false (sym (passed_before precedence precedence_total read_plain v xs increase middle k d low high e)
            ∙ at_middle d ∙ says))
        at k d low high false e = refl

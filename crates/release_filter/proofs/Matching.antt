-- The versions in the set of a range text, and small lemmas.
use Rattle.std.proofs.Common.{◌≡◌, ◌<◌, ◌^◌, ◌==◌, ◌∷◌, arith, length, ℕ, List, [], Some}
use Rattle.std.proofs.Common.{◌&&◌, ◌∙◌, ap, sym, Bool, true, false, refl, rules}
use Rattle.semver_texts.specs.Texts.{Text}
use Rattle.semver_texts.specs.ToolVersions.{SpellsIn}
use Rattle.semver_texts.specs.Versions.{PlainVersion, VersionValue}
use Rattle.semver_texts.specs.declared.grammar.Grammar.{Grammar}
use Rattle.semver_texts.specs.declared.grammar.Grammar.TheVariants.{Crate, Cargo, Npm}
use Rattle.semver_ranges.specs.RangeTree.{SetTree}
use Rattle.semver_ranges.specs.declared.range.Compat.{Compat}
use Rattle.version_sets.specs.PreReleaseRules.{is_kept, meets_text_with, numbers_fit}
use Rattle.version_sets.specs.declared.PreReleases.TheVariants.{Excluded}
use Rattle.version_sets.specs.VersionSets.{contains_kept, Fits}
use Rattle.release_filter.specs.Steps.Members.{is_member}
use Rattle.semver_texts.specs.VersionViews.{version_value}
use Rattle.semver_texts.specs.declared.version.Version.{Version}
use Rattle.version_sets.specs.VersionSets.{SetValue}

pub not_both : {b : Bool} → b ≡ true → b ≡ false → ⊥
not_both met never = absurd (search rules)

pub some_is : {X : Type 0} {x y : X} → Some x ≡ Some y → x ≡ y
some_is e = cc

pub no_length : (xs : List ℕ) → (length xs == 0) ≡ true → xs ≡ []
no_length [] e = refl
no_length (x ∷ xs) e = absurd (search rules)

-- ---- versions whose numbers fit 64 bits

pub fitting : (v : PlainVersion) → numbers_fit v ≡ true → Fits v
fitting v fits = grind (arith, rules)

pub all_fit : (v : PlainVersion) → v.major < 2 ^ 64 → v.minor < 2 ^ 64 → v.patch < 2 ^ 64 → numbers_fit v ≡ true
all_fit v major minor patch = grind (arith, rules)

-- the numbers of a version that a text spells fit
pub spelled_fits : (grammar : Grammar) (v : VersionValue) (text : Text) → SpellsIn grammar v text → numbers_fit v.plain ≡ true
spelled_fits Crate v text spelled = all_fit v.plain spelled.spells.major spelled.spells.minor spelled.spells.patch
spelled_fits Cargo v text spelled = all_fit v.plain spelled.major spelled.minor spelled.patch
spelled_fits Npm v text (npm, short) = all_fit v.plain npm.spells.major npm.spells.minor npm.spells.patch

-- a version is in the set of a range text if and only if the text keeps it
pub member_as_meant : (mode : Compat) (tree : SetTree) (set : SetValue) (v : Version)
    → (Fits (version_value v).plain → contains_kept set (version_value v).plain ≡ is_kept mode tree (version_value v))
    → is_member set v ≡ is_kept mode tree (version_value v)
member_as_meant mode tree set v told = by_fit (numbers_fit (version_value v).plain) refl
  where
    by_fit : (b : Bool) → numbers_fit (version_value v).plain ≡ b → is_member set v ≡ is_kept mode tree (version_value v)
    by_fit true e = ap (λ b. b && contains_kept set (version_value v).plain) e ∙ told (fitting (version_value v).plain e)
    by_fit false e = ap (λ b. b && contains_kept set (version_value v).plain) e
        ∙ sym (ap (λ b. b && meets_text_with Excluded mode tree (version_value v)) e)

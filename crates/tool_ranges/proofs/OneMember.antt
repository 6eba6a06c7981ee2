-- A string has only one version without the string, if the range contains it.
use Rattle.std.proofs.Common.{◌≡◌, ◌∙◌, Option, Some, None, MatchOption, refl, sym, ap}
use Rattle.semver_texts.specs.Digits.{digits_in}
use Rattle.semver_texts.specs.Texts.{Text}
use Rattle.semver_texts.specs.ToolVersions.{SpellsIn, before_numbers}
use Rattle.semver_texts.specs.Versions.{VersionValue}
use Rattle.semver_texts.specs.declared.grammar.Grammar.{Grammar}
use Rattle.semver_versions.specs.PlacedVersions.{placed_of}
use Rattle.semver_versions.specs.VersionRefs.{version_of, version_ref_after}
use Rattle.semver_versions.specs.declared.placed.PlacedVersion.{PlacedVersion}
use Rattle.version_sets.specs.VersionSets.{SetValue}
use Rattle.tool_ranges.specs.Highest.{IsMemberText, IsPlacedMember}

module _ (one : (h : Grammar) (u w : VersionValue) (t : Text) → SpellsIn h u t → SpellsIn h w t → u ≡ w) (g : Grammar) (set : SetValue)
    (text : Text) where
  same : (a b : PlacedVersion) → IsPlacedMember g set text a → IsPlacedMember g set text b → a ≡ b
  same a b x y =
      let (v, spells, is) = x.read in
      let (w, spells', is') = y.read in
      let placed = λ (u : VersionValue). placed_of (version_ref_after (digits_in g) (before_numbers text) u) in
      x.is ∙ ap placed_of is ∙ ap placed (one g v w text spells spells') ∙ sym (ap placed_of is') ∙ sym y.is

  member : (a : PlacedVersion) → IsPlacedMember g set text a → IsMemberText g set text
  member a x = (version_of x.version, x.spells, x.is_in)

  pub one_found : (r s : Option PlacedVersion) → MatchOption r (¬ (IsMemberText g set text)) (IsPlacedMember g set text)
      → MatchOption s (¬ (IsMemberText g set text)) (IsPlacedMember g set text) → r ≡ s
  one_found None None x y = refl
  one_found None (Some b) x y = absurd (x (member b y))
  one_found (Some a) None x y = absurd (y (member a x))
  one_found (Some a) (Some b) x y = ap Some (same a b x y)

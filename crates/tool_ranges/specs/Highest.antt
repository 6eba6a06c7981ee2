-- Which of many version texts is the highest, or the lowest, in a set.
use Rattle.std.specs.Prelude.{◌≡◌, ◌≢◌, ◌<◌, ℕ, true, List, Option, Some, MatchOption, slice_get}
use Rattle.std.specs.Borrow.{Bor}
use Rattle.std.specs.Ordering.{flip_args}
use Rattle.std.specs.declared.cmp.Ordering.{Ordering}
use Rattle.std.specs.declared.cmp.Ordering.TheVariants.{Less, Greater}
use Rattle.semver_texts.specs.declared.grammar.Grammar.{Grammar}
use Rattle.semver_texts.specs.Precedence.{precedence}
use Rattle.semver_texts.specs.Texts.{Text}
use Rattle.semver_texts.specs.ToolVersions.{SpellsIn}
use Rattle.semver_texts.specs.Versions.{PlainVersion, VersionValue}
use Rattle.semver_versions.specs.declared.placed.PlacedVersion.{PlacedVersion}
use Rattle.semver_versions.specs.PlacedVersions.{placed_of}
use Rattle.semver_versions.specs.Steps.Reading.{ArePartTexts}
use Rattle.semver_versions.specs.VersionRefs.{IsVersionRefIn, StandsAt, VersionRefValue}
use Rattle.semver_versions.specs.VersionRefs.{version_of}
use Rattle.version_sets.specs.VersionSets.{SetValue, contains}
use Rattle.tool_ranges.specs.declared.highest.Extreme.{Extreme}
use Rattle.tool_ranges.specs.declared.highest.Extreme.TheVariants.{Highest, Lowest}

-- the text is a version that is in the set
abbrev pub IsMemberText : Grammar → SetValue → Text → Type 0
IsMemberText g set text = (v : VersionValue) × SpellsIn g v text × (contains set v.plain ≡ true)

-- the text is a version that is in the set, and this is that version without its text
pub record IsPlacedMember (g : Grammar) (set : SetValue) (text : Text) (placed : PlacedVersion)
    : Type 0 where
  pub version : VersionRefValue
  pub read : IsVersionRefIn g text version
  pub spells : SpellsIn g (version_of version) text
  pub is_in : contains set (version_of version).plain ≡ true
  pub is : placed ≡ placed_of version
  pub place : StandsAt version.pre_offset version.pre text
  pub parts : ArePartTexts version.pre

-- the text at an index is a version that is in the set
pub record IsMember (g : Grammar) (set : SetValue) (texts : List (Bor Text)) (k : ℕ)
    (v : PlainVersion) : Type 0 where
  pub text : Bor Text
  pub at : slice_get texts k ≡ Some text
  pub version : VersionValue
  pub spells : SpellsIn g version text.now
  pub plain : version.plain ≡ v
  pub is_in : contains set v ≡ true

-- precedence, or for the lowest version the reverse of it
abbrev pub order_for : Extreme → PlainVersion → PlainVersion → Ordering
order_for Highest = precedence
order_for Lowest = flip_args precedence

-- in an order, the version at the index is the first of the highest ones: each earlier one is below
-- it, and none is above it
pub record IsHighest (order : PlainVersion → PlainVersion → Ordering)
    (IsOne : ℕ → PlainVersion → Type 0) (index : ℕ) : Type 0 where
  pub version : PlainVersion
  pub is_one : IsOne index version
  pub earlier : (k : ℕ) (v : PlainVersion) → IsOne k v → k < index → order v version ≡ Less
  pub later : (k : ℕ) (v : PlainVersion) → IsOne k v → order v version ≢ Greater

-- the result is the index of the highest or the lowest version in the set, or `None` if no text is
-- a version in the set
abbrev pub FindsExtreme : Extreme → Grammar → SetValue → List (Bor Text) → Option ℕ → Type 0
FindsExtreme which g set texts found =
    MatchOption found ((k : ℕ) (v : PlainVersion) → ¬ (IsMember g set texts k v))
    (IsHighest (order_for which) (IsMember g set texts))

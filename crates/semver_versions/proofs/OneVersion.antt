-- How a text that spells a version in the crate's grammar begins and continues. It spells only one
-- version.
use Rattle.std.proofs.Common.{◌≡◌, ℕ, Bool, true, false, List, [], ◌∷◌, ◌++◌, sym, ◌∙◌, subst, append_assoc, append-nil}
use Rattle.std.specs.Prelude.{slice_index}
use Rattle.semver_texts.specs.Texts.{BeginsWithNumbers, is_part_byte, is_space}
use Rattle.semver_texts.specs.Versions.{IdentifierValue, VersionValue}
use Rattle.semver_texts.specs.VersionGrammar.{SpellsIdentifier, SpellsPart, SpellsCore, SpellsVersion}
use Rattle.semver_texts.specs.declared.grammar.Digits.TheVariants.{Kept}
use Rattle.semver_texts.specs.declared.grammar.Grammar.TheVariants.{Crate}
use Rattle.semver_texts.proofs.Lists.{Passes, all_more, marked_passes}
use Rattle.semver_versions.proofs.DialectVersionRefs.{no_space}
use Rattle.semver_versions.proofs.ReadTexts.{crate_read, digit_begins, one_version_in}
use Rattle.semver_versions.proofs.KeptTexts.{begins_marked, kept_parts, part_bytes, spelled_kept, spelled_kept_all}
use Rattle.semver_texts.proofs.Lists.{each_passes}
use Rattle.semver_versions.proofs.ReadVersions.{marked_rest, its_numbers}
use Rattle.semver_texts.specs.Texts.{is_part}

pub same_identifier : (id other : IdentifierValue) (text : List ℕ) → SpellsIdentifier id text → SpellsIdentifier other text → id ≡ other
same_identifier id other text a b =
    (spelled_kept id text a).1 ∙ sym (spelled_kept other text b).1

pub part_passes : (p : ℕ → Bool) → ((b : ℕ) → is_part_byte b ≡ true → p b ≡ true) → p 46 ≡ true → (mark : ℕ) → p mark ≡ true
    → (ids : List IdentifierValue) (text : List ℕ) → SpellsPart (mark ∷ []) ids text → Passes p text
part_passes p more dot mark here ids text w =
    let each = each_passes is_part w.texts (kept_parts Kept ids w.texts (spelled_kept_all ids w.texts w.each)) in
    subst (Passes p) (sym w.joined)
    (marked_passes p dot mark here w.texts (all_more (λ t is. all_more more t (part_bytes t is).1) w.texts each))

part_begins : (p : ℕ → Bool) (mark : ℕ) {ids : List IdentifierValue} {text : List ℕ} (more : List ℕ) → SpellsPart (mark ∷ []) ids text
    → p mark ≡ false → p (slice_index more 0) ≡ false → p (slice_index (text ++ more) 0) ≡ false
part_begins p mark more w here there =
    rw w.joined (begins_marked p mark w.texts more here there)

space_begins : (p : ℕ → Bool) (after : List ℕ) → Passes is_space after → p 0 ≡ false
    → ((b : ℕ) → is_space b ≡ true → p b ≡ false) → p (slice_index after 0) ≡ false
space_begins p [] all past space = past
space_begins p (b ∷ after) all past space = space b all.0

-- a text that begins with three numbers doesn't begin with white space
pub numbers_first : {text rest : List ℕ} {major minor patch : ℕ} → BeginsWithNumbers text major minor patch rest
    → is_space (slice_index text 0) ≡ false
numbers_first n = no_space (digit_begins n)

module _ {v : VersionValue} {text : List ℕ} (w : SpellsVersion v text) where
  -- the text after the white space before the version; below, the text after the numbers
  abbrev pub at_numbers : List ℕ
  at_numbers = w.core ++ w.after

  abbrev pub after_numbers : List ℕ
  after_numbers = w.spells.pre_text ++ (w.spells.build_text ++ w.after)

  pub after_spaces : text ≡ w.before ++ at_numbers
  after_spaces = w.whole ∙ append_assoc w.before w.core w.after

  pub core_begins : BeginsWithNumbers at_numbers v.plain.major v.plain.minor v.plain.patch (marked_rest (crate_read w))
  core_begins = its_numbers (crate_read w)

  -- if white space and the marks fail a test, so does the byte after each part of the version
  module _ (p : ℕ → Bool) (past : p 0 ≡ false) (space : (b : ℕ) → is_space b ≡ true → p b ≡ false) where
    pub build_ends : p (slice_index w.after 0) ≡ false
    build_ends = space_begins p w.after w.spaces_after past space

    pub pre_ends : p 43 ≡ false → p (slice_index (w.spells.build_text ++ w.after) 0) ≡ false
    pre_ends plus = part_begins p 43 w.after w.spells.build plus build_ends

    pub numbers_end : p 43 ≡ false → p 45 ≡ false → p (slice_index after_numbers 0) ≡ false
    numbers_end plus hyphen = part_begins p 45 _ w.spells.pre hyphen (pre_ends plus)

pub one_version : (v w : VersionValue) (text : List ℕ) → SpellsVersion v text → SpellsVersion w text → v ≡ w
one_version = one_version_in Crate

-- the core of a version spells the version, without white space around it
pub bare : {v : VersionValue} {text : List ℕ} → SpellsCore v text → SpellsVersion v text
bare {text = text} w = record {
  before = [];
  core = text;
  after = [];
  spaces_before = tt;
  spaces_after = tt;
  spells = w;
  whole = sym (append-nil text);
}

pub one_core : (v w : VersionValue) (text : List ℕ) → SpellsCore v text → SpellsCore w text → v ≡ w
one_core v w text a b = one_version v w text (bare a) (bare b)

-- The crate's grammar of versions: which version a text spells. It is that of SemVer 2.0.0
-- (sections 2, 9 and 10) with these differences: white space may be around the version, numbers are
-- below 2^64, an identifier of digits in the pre-release may have leading zeros, and hyphens may
-- only be between two runs.
use Prim.Native.Char.{code}
use Rattle.std.specs.Prelude.{◌≡◌, ◌-◌, ◌^◌, ◌<◌, false, List, ◌++◌, length, map, slice_index}
use Rattle.std.specs.Prelude.{IsTrue, codes, decimal}
use Rattle.std.specs.List.{AllByRecursion, AllZip, join_with_byte}
use Rattle.semver_texts.specs.Texts.{Text, marked, IsRun, IsNumber, is_space}
use Rattle.semver_texts.specs.Versions.{IdentifierValue, numeric, alphanumeric, VersionValue}
use Rattle.semver_texts.specs.Versions.{numbers}
use Rattle.semver_texts.specs.PrintedText.{identifier_text}

-- one or more runs joined by single hyphens
pub record IsIdentifierText (text : Text) : Type 0 where
  pub runs : List Text
  pub some : 0 < length runs
  pub each : AllByRecursion IsRun runs
  pub joined : text ≡ join_with_byte (code "-") runs

-- the text spells the identifier: if it is the canonical decimal of a number below 2^64, as that
-- number, otherwise as the text itself
abbrev pub SpellsIdentifier : IdentifierValue → Text → Type 0
SpellsIdentifier (numeric n) text = (n < 2 ^ 64) × (text ≡ decimal n)
SpellsIdentifier (alphanumeric kept) text =
    (text ≡ kept) × IsIdentifierText kept × ¬ (IsNumber kept)

-- the mark, and then the identifiers joined by dots; nothing if there are no identifiers
pub record SpellsPart (mark : Text) (ids : List IdentifierValue) (text : Text) : Type 0 where
  pub texts : List Text
  pub each : AllZip SpellsIdentifier ids texts
  pub joined : text ≡ marked mark texts

-- the text spells the version, without white space around it: three numbers joined by dots, the
-- pre-release after `-`, the build metadata after `+`
pub record SpellsCore (v : VersionValue) (text : Text) : Type 0 where
  pub pre_text : Text
  pub build_text : Text
  pub major : v.plain.major < 2 ^ 64
  pub minor : v.plain.minor < 2 ^ 64
  pub patch : v.plain.patch < 2 ^ 64
  pub pre : SpellsPart (codes "-") v.plain.pre pre_text
  pub build : SpellsPart (codes "+") v.build build_text
  pub spelled : text ≡ join_with_byte (code ".") (map decimal (numbers v.plain)) ++ pre_text
      ++ build_text

-- the text spells the version, perhaps with white space on both sides
pub record SpellsVersion (v : VersionValue) (text : Text) : Type 0 where
  pub before : Text
  pub core : Text
  pub after : Text
  pub spaces_before : AllByRecursion (λ b. IsTrue (is_space b)) before
  pub spaces_after : AllByRecursion (λ b. IsTrue (is_space b)) after
  pub spells : SpellsCore v core
  pub whole : text ≡ before ++ core ++ after

-- the text spells some version
abbrev pub IsVersionText : Text → Type 0
IsVersionText text = (v : VersionValue) × SpellsVersion v text

-- `inner` is the text without the spaces, tabs, line feeds and carriage returns at its ends
pub record IsTrimmed (text inner : Text) : Type 0 where
  pub before : Text
  pub after : Text
  pub spaces_before : AllByRecursion (λ b. IsTrue (is_space b)) before
  pub spaces_after : AllByRecursion (λ b. IsTrue (is_space b)) after
  pub whole : text ≡ before ++ inner ++ after
  pub first : is_space (slice_index inner 0) ≡ false
  pub last : is_space (slice_index inner (length inner - 1)) ≡ false

-- the printed text of the identifier spells it
abbrev pub IsPrintableIdentifier : IdentifierValue → Type 0
IsPrintableIdentifier id = SpellsIdentifier id (identifier_text id)

-- the printed text of the version spells it: its numbers are below 2^64, and the printed texts of
-- its identifiers spell them
pub record IsPrintableVersion (v : VersionValue) : Type 0 where
  pub major : v.plain.major < 2 ^ 64
  pub minor : v.plain.minor < 2 ^ 64
  pub patch : v.plain.patch < 2 ^ 64
  pub pre : AllByRecursion IsPrintableIdentifier v.plain.pre
  pub build : AllByRecursion IsPrintableIdentifier v.build

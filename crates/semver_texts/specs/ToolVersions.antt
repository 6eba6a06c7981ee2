-- Versions as Cargo and npm read them: Cargo reads those of SemVer 2.0.0, and npm those that
-- node-semver 7 reads without options.
use Prim.Native.Char.{code}
use Rattle.std.specs.Prelude.{◌≡◌, ◌⊎◌, ℕ, ◌^◌, ◌<◌, ◌≤◌, Bool, false, not, List}
use Rattle.std.specs.Prelude.{[], ◌++◌, map, IsTrue, codes, decimal}
use Rattle.std.specs.Char.{is_ascii_digit}
use Rattle.std.specs.Int.{is_in_range}
use Rattle.std.specs.List.{AllZip, count_by, join_with_byte, list_all, prefix_len}
use Rattle.std.specs.Str.Parse.{digits_value}
use Rattle.semver_texts.specs.Texts.{Text, has_no_leading_zero, is_number, is_part, marked}
use Rattle.semver_texts.specs.Versions.{IdentifierValue, numeric, alphanumeric, VersionValue}
use Rattle.semver_texts.specs.Versions.{numbers}
use Rattle.semver_texts.specs.VersionGrammar.{SpellsVersion}
use Rattle.semver_texts.specs.WhiteSpace.{AreWhiteSpaces}
use Rattle.semver_texts.specs.NpmLimits.{max_length}
use Rattle.semver_texts.specs.declared.grammar.Grammar.{Grammar}
use Rattle.semver_texts.specs.declared.grammar.Grammar.TheVariants.{Crate, Cargo, Npm}

-- the text, which is one or more letters, digits or hyphens, is kept as the identifier (SemVer
-- 2.0.0, sections 9 and 10). Digits without a leading zero are kept as their number, of any size,
-- and any other text is kept as it is
abbrev pub IsKeptAs : IdentifierValue → Text → Type 0
IsKeptAs (numeric n) text = IsTrue (is_number text) × (digits_value 10 text ≡ n)
IsKeptAs (alphanumeric kept) text =
    (text ≡ kept) × IsTrue (is_part kept) × (is_number kept ≡ false)

-- the text spells the version as in SemVer 2.0.0: three numbers below 2^64 joined by dots, then `-`
-- and the identifiers of the pre-release, if there are any, then `+` and those of the build
-- metadata, if there are any. An identifier of the pre-release that consists of digits has no
-- leading zero
pub record SpellsSemver (v : VersionValue) (text : Text) : Type 0 where
  pub pre_texts : List Text
  pub build_texts : List Text
  pub major : v.plain.major < 2 ^ 64
  pub minor : v.plain.minor < 2 ^ 64
  pub patch : v.plain.patch < 2 ^ 64
  pub pre : AllZip IsKeptAs v.plain.pre pre_texts
  pub no_zeros : IsTrue (list_all has_no_leading_zero pre_texts)
  pub build : AllZip IsKeptAs v.build build_texts
  pub spelled : text ≡ join_with_byte (code ".") (map decimal (numbers v.plain))
      ++ (marked (codes "-") pre_texts ++ marked (codes "+") build_texts)

-- whether a byte is a later byte of a UTF-8 character, not its first one
abbrev pub goes_on : ℕ → Bool
goes_on b = is_in_range 0x80 0xBF b

-- the number of characters of a text. In a version, each character is one unit of UTF-16, which
-- JavaScript counts
abbrev pub characters : Text → ℕ
characters text = count_by (λ b. not (goes_on b)) text

-- the text spells the version as npm reads it, of any length: a version of SemVer 2.0.0 whose
-- numbers are below 2^53, after `v` or nothing, with any white space on both sides
pub record SpellsNpmAtAnyLength (v : VersionValue) (text : Text) : Type 0 where
  pub before : Text
  pub sign : Text
  pub core : Text
  pub after : Text
  pub spaces_before : AreWhiteSpaces before
  pub is_sign : (sign ≡ []) ⊎ (sign ≡ codes "v")
  pub spells : SpellsSemver v core
  pub spaces_after : AreWhiteSpaces after
  pub major : v.plain.major < 2 ^ 53
  pub minor : v.plain.minor < 2 ^ 53
  pub patch : v.plain.patch < 2 ^ 53
  pub whole : text ≡ before ++ (sign ++ (core ++ after))

-- the text spells the version as npm reads it, and has at most as many characters as npm allows
abbrev pub SpellsNpm : VersionValue → Text → Type 0
SpellsNpm v text = SpellsNpmAtAnyLength v text × (characters text ≤ max_length)

-- the text spells the version in a grammar
abbrev pub SpellsIn : Grammar → VersionValue → Text → Type 0
SpellsIn Crate v text = SpellsVersion v text
SpellsIn Cargo v text = SpellsSemver v text
SpellsIn Npm v text = SpellsNpm v text

-- the text spells some version in a grammar
abbrev pub IsVersionTextIn : Grammar → Text → Type 0
IsVersionTextIn grammar text = (v : VersionValue) × SpellsIn grammar v text

-- the number of bytes of a version text before its numbers
abbrev pub before_numbers : Text → ℕ
before_numbers text = prefix_len (λ b. not (is_ascii_digit b)) text

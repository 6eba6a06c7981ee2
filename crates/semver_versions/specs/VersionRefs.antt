-- Borrowed versions: three numbers, the text of the pre-release and that of the build metadata, and
-- the offsets at which both begin in the text of the version.
use Prim.Native.Char.{code}
use Rattle.std.specs.Prelude.{◌≡◌, ℕ, true, suc, ◌+◌, ◌^◌, ◌&&◌, nat_lt, if◌then◌else◌, List, [], ◌∷◌}
use Rattle.std.specs.Prelude.{length, map, take, drop, decimal}
use Rattle.std.specs.List.{join_with_byte, list_all, prefix_len}
use Rattle.std.specs.Str.Parse.{digits_value}
use Rattle.semver_texts.specs.Digits.{digits_in, version_by}
use Rattle.semver_texts.specs.Texts.{Text, cut_at_dots, is_number, is_part, is_space}
use Rattle.semver_texts.specs.ToolVersions.{SpellsIn, before_numbers}
use Rattle.semver_texts.specs.Versions.{IdentifierValue, numeric, alphanumeric, PlainVersion}
use Rattle.semver_texts.specs.Versions.{VersionValue}
use Rattle.semver_texts.specs.Versions.{numbers}
use Rattle.semver_texts.specs.declared.grammar.Digits.{Digits}
use Rattle.semver_texts.specs.declared.grammar.Digits.TheVariants.{Kept, AnySize}
use Rattle.semver_texts.specs.declared.grammar.Grammar.{Grammar}
use Rattle.semver_texts.specs.PrintedText.{identifier_text, plain_text}
use Rattle.semver_texts.specs.VersionGrammar.{SpellsVersion}

-- three numbers, two texts and their offsets, and how numeric identifiers are read
pub record VersionRefValue : Type 0 where
  pub major : ℕ
  pub minor : ℕ
  pub patch : ℕ
  pub pre : Text
  pub build : Text
  pub pre_offset : ℕ
  pub build_offset : ℕ
  pub digits : Digits

-- the text of identifiers: their printed texts, joined by dots; empty if there are none
abbrev pub dotted_text : List IdentifierValue → Text
dotted_text ids = join_with_byte (code ".") (map identifier_text ids)

-- the offset at which a part begins, which is after its mark at the offset `place`; 0 if there is
-- no part
abbrev pub after_mark : ℕ → Text → ℕ
after_mark place [] = 0
after_mark place (byte ∷ part) = suc place

-- the borrowed version of a version that has `before` bytes before it: its numbers, and the texts
-- of its identifiers, each after its mark. The mark of the pre-release is after the numbers, and
-- that of the build metadata is after the version without build metadata
abbrev pub version_ref_after : Digits → ℕ → VersionValue → VersionRefValue
version_ref_after digits before v = record {
  major = v.plain.major;
  minor = v.plain.minor;
  patch = v.plain.patch;
  pre = dotted_text v.plain.pre;
  build = dotted_text v.build;
  pre_offset = after_mark
      (before + length (join_with_byte (code ".") (map decimal (numbers v.plain))))
      (dotted_text v.plain.pre);
  build_offset = after_mark (before + length (plain_text v.plain)) (dotted_text v.build);
  digits = digits;
}

-- the text of each identifier of the pre-release can be a part of a text of a version
abbrev pub HasPartTexts : PlainVersion → Type 0
HasPartTexts v = list_all is_part (map identifier_text v.pre) ≡ true

-- a version without build metadata as one that owns its strings
abbrev pub owned_value : PlainVersion → VersionRefValue
owned_value v = record {
  major = v.major;
  minor = v.minor;
  patch = v.patch;
  pre = dotted_text v.pre;
  build = [];
  pre_offset = 0;
  build_offset = 0;
  digits = AnySize;
}

-- the borrowed version of a version that the text spells, with `before` bytes before the version
abbrev pub IsVersionRefAfter : ℕ → Text → VersionRefValue → Type 0
IsVersionRefAfter before text o =
    (v : VersionValue) × SpellsVersion v text × (o ≡ version_ref_after Kept before v)

-- the borrowed version of a version that the text spells, after the white space at its beginning
abbrev pub IsVersionRefOf : Text → VersionRefValue → Type 0
IsVersionRefOf text o = IsVersionRefAfter (prefix_len is_space text) text o

-- the borrowed version of a version that the text spells in a grammar
abbrev pub IsVersionRefIn : Grammar → Text → VersionRefValue → Type 0
IsVersionRefIn grammar text o = (v : VersionValue) × SpellsIn grammar v text
    × (o ≡ version_ref_after (digits_in grammar) (before_numbers text) v)

-- the identifier that a text of letters, digits and hyphens is kept as
abbrev pub identifier_of : Text → IdentifierValue
identifier_of part = if is_number part && nat_lt (digits_value 10 part) (2 ^ 64)
    then numeric (digits_value 10 part) else alphanumeric part

-- the version of a borrowed version, with the identifiers as they are kept
abbrev pub kept_version_of : VersionRefValue → VersionValue
kept_version_of o = record {
  plain = record {
    major = o.major;
    minor = o.minor;
    patch = o.patch;
    pre = map identifier_of (cut_at_dots o.pre);
  };
  build = map identifier_of (cut_at_dots o.build);
}

-- the version of a borrowed version, with the identifiers as its grammar reads them
abbrev pub version_of : VersionRefValue → VersionValue
version_of o = version_by o.digits (kept_version_of o)

-- the part is in the text at the offset
abbrev pub StandsAt : ℕ → Text → Text → Type 0
StandsAt offset part text = take (length part) (drop offset text) ≡ part

-- A means of proof: a version as a grammar reads it, from left to right. `VersionGrammar` and
-- `ToolVersions` define which version a text spells, and the public clauses cite those.
use Prim.Native.Char.{code}
use Rattle.std.specs.Prelude.{◌≡◌, ◌≢◌, ◌⊎◌, ◌≤◌, ◌<◌, ◌+◌, ◌^◌, ℕ, Bool, false, List, [], ◌∷◌}
use Rattle.std.specs.Prelude.{◌++◌, length, map, slice_index, IsTrue, codes}
use Rattle.std.specs.Prelude.{decimal, Option, Some, None}
use Rattle.std.specs.List.{AllByRecursion, AllZip, concat, join_with_byte, list_all}
use Rattle.semver_texts.specs.Texts.{Text, cut_at_dots, has_no_leading_zero, is_part, is_space}
use Rattle.semver_texts.specs.Texts.{marked}
use Rattle.semver_texts.specs.Digits.{digits_in, identifier_by}
use Rattle.semver_texts.specs.ToolVersions.{IsVersionTextIn, before_numbers}
use Rattle.semver_texts.specs.NpmLimits.{max_length}
use Rattle.semver_texts.specs.WhiteSpace.{is_white_space, size_at_front}
use Rattle.semver_texts.specs.VersionGrammar.{IsIdentifierText}
use Rattle.semver_texts.specs.Versions.{IdentifierValue, VersionValue, numbers}
use Rattle.semver_texts.specs.declared.grammar.Grammar.{Grammar}
use Rattle.semver_texts.specs.declared.grammar.Grammar.TheVariants.{Crate, Cargo, Npm}
use Rattle.semver_texts.specs.declared.dotted.Hyphens.{Hyphens}
use Rattle.semver_texts.specs.declared.dotted.Hyphens.TheVariants.{Any, BetweenRuns}
use Rattle.semver_texts.specs.declared.grammar.Digits.{Digits}
use Rattle.semver_versions.specs.VersionRefs.{VersionRefValue, IsVersionRefIn, after_mark}
use Rattle.semver_versions.specs.VersionRefs.{identifier_of, version_ref_after}

-- ---- what differs between grammars

-- whether these are the bytes of one character that may be before and after a version
abbrev pub is_around : Grammar → Text → Bool
is_around Crate (b ∷ []) = is_space b
is_around Crate _ = false
is_around Cargo _ = false
is_around Npm character = is_white_space character

-- the sign between these characters and the rest: in npm's grammar it is a `v` if there is one, and
-- in the others there is none
abbrev pub IsSign : Grammar → Text → Text → Type 0
IsSign Crate sign rest = sign ≡ []
IsSign Cargo sign rest = sign ≡ []
IsSign Npm sign rest =
    (sign ≡ codes "v") ⊎ ((sign ≡ []) × (slice_index rest 0 ≢ code "v"))

-- the numbers are within the limit of the grammar, if it has one below 2^64
abbrev pub NumbersFit : Grammar → ℕ → ℕ → ℕ → Type 0
NumbersFit Crate major minor patch = Unit {0}
NumbersFit Cargo major minor patch = Unit {0}
NumbersFit Npm major minor patch = (major < 2 ^ 53) × (minor < 2 ^ 53) × (patch < 2 ^ 53)

-- this number of characters is within the limit of the grammar, if it has one
abbrev pub IsShort : Grammar → ℕ → Type 0
IsShort Crate count = Unit {0}
IsShort Cargo count = Unit {0}
IsShort Npm count = count ≤ max_length

-- which hyphens an identifier may have
abbrev pub hyphens_of : Grammar → Hyphens
hyphens_of Crate = BetweenRuns
hyphens_of Cargo = Any
hyphens_of Npm = Any

-- the identifiers of a pre-release have no leading zeros if the grammar doesn't allow them
abbrev pub ZerosFit : Grammar → List Text → Type 0
ZerosFit Crate texts = Unit {0}
ZerosFit Cargo texts = IsTrue (list_all has_no_leading_zero texts)
ZerosFit Npm texts = IsTrue (list_all has_no_leading_zero texts)

-- ---- what is around a version

-- any number of characters that may be around a version
pub record AreAround (grammar : Grammar) (text : Text) : Type 0 where
  pub each : List Text
  pub are : IsTrue (list_all (is_around grammar) each)
  pub whole : text ≡ concat each

-- the number of bytes of the character at the beginning of a text if it may be around a version;
-- otherwise 0
abbrev pub around_size : Grammar → Text → ℕ
around_size grammar text = size_at_front (is_around grammar) text

-- the rest follows everything that is read before the numbers
abbrev pub IsBefore : Grammar → Text → Text → Type 0
IsBefore grammar text rest = (spaces : Text) × (sign : Text) × AreAround grammar spaces
    × IsSign grammar sign rest × (text ≡ spaces ++ (sign ++ rest))
    × (around_size grammar (sign ++ rest) ≡ 0)

-- ---- what follows the numbers

-- each text between the dots is one or more letters, digits or hyphens
abbrev pub ArePartTexts : Text → Type 0
ArePartTexts t = IsTrue (list_all is_part (cut_at_dots t))

-- each text is an identifier with the hyphens that are allowed
abbrev pub AreIdentifiers : Hyphens → List Text → Type 0
AreIdentifiers Any texts = IsTrue (list_all is_part texts)
AreIdentifiers BetweenRuns texts = AllByRecursion IsIdentifierText texts

-- the text is the identifiers of a pre-release and those of build metadata, each after their mark,
-- and then what may be after a version
pub record AreParts (grammar : Grammar) (text pre build : Text) : Type 0 where
  pub after : Text
  pub pre_each : AreIdentifiers (hyphens_of grammar) (cut_at_dots pre)
  pub build_each : AreIdentifiers (hyphens_of grammar) (cut_at_dots build)
  pub zeros : ZerosFit grammar (cut_at_dots pre)
  pub around : AreAround grammar after
  pub split : text
      ≡ marked (codes "-") (cut_at_dots pre) ++ (marked (codes "+") (cut_at_dots build) ++ after)

-- the borrowed version with these numbers, which end at the offset `numbers_end`, and with the
-- texts of a pre-release and of build metadata, each after its mark
abbrev pub version_ref_with : Digits → ℕ → ℕ → ℕ → ℕ → Text → Text → VersionRefValue
version_ref_with digits major minor patch numbers_end pre build = record {
  major = major;
  minor = minor;
  patch = patch;
  pre = pre;
  build = build;
  pre_offset = after_mark numbers_end pre;
  build_offset = after_mark (numbers_end + length (marked (codes "-") (cut_at_dots pre))) build;
  digits = digits;
}

-- ---- the whole

-- the text is one or more letters, digits or hyphens, and is read as the identifier, with numbers
-- of 2^64 or more as `digits` says
abbrev pub IsKeptBy : Digits → IdentifierValue → Text → Type 0
IsKeptBy digits id text = IsTrue (is_part text) × (id ≡ identifier_by digits (identifier_of text))

-- the text is the numbers of the version, then its identifiers, and then what may be after a
-- version
pub record IsRead (grammar : Grammar) (v : VersionValue) (text : Text) : Type 0 where
  pub pre_texts : List Text
  pub build_texts : List Text
  pub after : Text
  pub major : v.plain.major < 2 ^ 64
  pub minor : v.plain.minor < 2 ^ 64
  pub patch : v.plain.patch < 2 ^ 64
  pub fits : NumbersFit grammar v.plain.major v.plain.minor v.plain.patch
  pub pre : AllZip (IsKeptBy (digits_in grammar)) v.plain.pre pre_texts
  pub pre_each : AreIdentifiers (hyphens_of grammar) pre_texts
  pub zeros : ZerosFit grammar pre_texts
  pub build : AllZip (IsKeptBy (digits_in grammar)) v.build build_texts
  pub build_each : AreIdentifiers (hyphens_of grammar) build_texts
  pub around : AreAround grammar after
  pub whole : text ≡ join_with_byte (code ".") (map decimal (numbers v.plain))
      ++ (marked (codes "-") pre_texts ++ (marked (codes "+") build_texts ++ after))

-- the borrowed version of a version that is read from the text, with `before` bytes before the
-- text; `None` if there is no such version
abbrev pub IsBorrowedAt : Grammar → ℕ → Text → Option VersionRefValue → Type 0
IsBorrowedAt grammar before text None = (v : VersionValue) → ¬ (IsRead grammar v text)
IsBorrowedAt grammar before text (Some o) =
    (v : VersionValue) × IsRead grammar v text
    × (o ≡ version_ref_after (digits_in grammar) before v)

-- the borrowed version of a version that is read from the text after everything that is before the
-- numbers, for any length of the text; `None` if there is no such version
abbrev pub IsBorrowedFrom : Grammar → Text → Option VersionRefValue → Type 0
IsBorrowedFrom grammar text None =
    (v : VersionValue) (rest : Text) → IsBefore grammar text rest → ¬ (IsRead grammar v rest)
IsBorrowedFrom grammar text (Some o) = (v : VersionValue) × (rest : Text)
    × IsBefore grammar text rest × IsRead grammar v rest
    × (o ≡ version_ref_after (digits_in grammar) (before_numbers text) v)

-- the borrowed version of a version that the text spells, or `None` if it spells none
abbrev pub IsBorrowedBy : Grammar → Text → Option VersionRefValue → Type 0
IsBorrowedBy grammar text None = ¬ (IsVersionTextIn grammar text)
IsBorrowedBy grammar text (Some o) = IsVersionRefIn grammar text o

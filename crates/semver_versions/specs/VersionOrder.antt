-- The order of borrowed versions, and how one is printed.
use Prim.Native.Char.{code}
use Rattle.std.specs.Prelude.{◌≡◌, ◌++◌, [], ◌∷◌, map, decimal, codes}
use Rattle.std.specs.Hash as fed
use Rattle.std.specs.Hash.{HashWrites}
use Rattle.std.specs.List.{join_with_byte}
use Rattle.std.specs.Ordering.{nat_cmp, on, then_cmp}
use Rattle.std.specs.Cmp.Lexicographic.{slice_cmp}
use Rattle.std.specs.declared.cmp.Ordering.{Ordering}
use Rattle.semver_texts.specs.Precedence.{precedence}
use Rattle.semver_texts.specs.Texts.{Text}
use Rattle.semver_texts.specs.Versions.{PlainVersion, numbers}
use Rattle.semver_texts.specs.declared.grammar.Digits.TheVariants.{AnySize}
use Rattle.semver_versions.specs.VersionRefs.{VersionRefValue, version_of}

-- the version without build metadata, where identifiers of digits are numbers of any size
abbrev pub semver_of : VersionRefValue → PlainVersion
semver_of o = (version_of (record o { digits = AnySize })).plain

-- first by precedence (section 11 of SemVer 2.0.0), then by the text of the pre-release, and then
-- by that of the build metadata
abbrev pub order : VersionRefValue → VersionRefValue → Ordering
order =
    then_cmp (on semver_of precedence)
    (then_cmp (on (λ (o : VersionRefValue). o.pre) (slice_cmp nat_cmp))
    (on (λ (o : VersionRefValue). o.build) (slice_cmp nat_cmp)))

-- the numbers and the two texts are the same; the offsets and the grammar needn't be
pub record HaveSameParts (a b : VersionRefValue) : Type 0 where
  pub major : a.major ≡ b.major
  pub minor : a.minor ≡ b.minor
  pub patch : a.patch ≡ b.patch
  pub pre : a.pre ≡ b.pre
  pub build : a.build ≡ b.build

-- a part after its mark, or nothing if the part is empty
abbrev pub part_text : Text → Text → Text
part_text mark [] = []
part_text mark (b ∷ t) = mark ++ (b ∷ t)

-- the three numbers joined by dots, and the two parts, each after its mark
abbrev pub ref_text : VersionRefValue → Text
ref_text o =
    join_with_byte (code ".") (map decimal (numbers (semver_of o)))
    ++ (part_text (codes "-") o.pre ++ part_text (codes "+") o.build)

-- that text in quotation marks
abbrev pub quoted_text : VersionRefValue → Text
quoted_text o = codes "\"" ++ (ref_text o ++ codes "\"")

-- what `hash` writes: the numbers, and the two texts
abbrev pub hashed_parts : VersionRefValue → HashWrites
hashed_parts o =
    fed.u64 o.major ++ (fed.u64 o.minor ++ (fed.u64 o.patch
    ++ (fed.slice fed.u8 o.pre ++ fed.slice fed.u8 o.build)))

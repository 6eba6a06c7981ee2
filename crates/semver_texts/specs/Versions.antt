-- The values of identifiers and versions, independent of where they are in memory. Versions,
-- ranges, precedence and the filter are all defined with these.
use Rattle.std.specs.Prelude.{ℕ, List, [], ◌∷◌}
use Rattle.semver_texts.specs.Texts.{Text}

-- an identifier of a pre-release or of build metadata: a number, or the bytes of a text
pub data IdentifierValue : Type 0 where
  numeric : ℕ → IdentifierValue
  alphanumeric : Text → IdentifierValue

-- a version without build metadata: three numbers, and the identifiers of its pre-release
pub record PlainVersion : Type 0 where
  pub major : ℕ
  pub minor : ℕ
  pub patch : ℕ
  pub pre : List IdentifierValue

-- a version, with the identifiers of its build metadata
pub record VersionValue : Type 0 where
  pub plain : PlainVersion
  pub build : List IdentifierValue

-- a version that has no build metadata
abbrev pub without_build : PlainVersion → VersionValue
without_build v = record { plain = v; build = [] }

-- the three numbers of a version, as a list
abbrev pub numbers : PlainVersion → List ℕ
numbers v = v.major ∷ v.minor ∷ v.patch ∷ []

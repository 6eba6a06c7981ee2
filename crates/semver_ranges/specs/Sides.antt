-- The table of the dialects: the sides of its zero-filled version between which the versions of a
-- term are, and whether the numbers of the term are within the limit.
use Rattle.std.specs.Prelude.{ℕ, suc, Bool, true, false, not, ◌&&◌, ◌==◌, if◌then◌else◌, length}
use Rattle.std.specs.Prelude.{nat_le, nat_lt, slice_index, List, [], ◌∷◌, Option, Some, None}
use Rattle.std.specs.List.{list_all}
use Rattle.semver_texts.specs.Texts.{is_empty}
use Rattle.semver_texts.specs.Versions.{numbers, PlainVersion}
use Rattle.semver_ranges.specs.declared.operator.Operator.{Operator}
use Rattle.semver_ranges.specs.declared.operator.Operator.TheVariants.{Bare, Equal, Less}
use Rattle.semver_ranges.specs.declared.operator.Operator.TheVariants.{LessOrEqual, Greater}
use Rattle.semver_ranges.specs.declared.operator.Operator.TheVariants.{GreaterOrEqual, Tilde, Caret}
use Rattle.semver_ranges.specs.declared.operator.Operator.TheVariants.{Hyphen}
use Rattle.semver_ranges.specs.RangeTree.{Simple}
use Rattle.semver_ranges.specs.Partials.{leading_place, stated, zero_filled}
use Rattle.semver_ranges.specs.declared.dialect.Dialect.{Dialect}
use Rattle.semver_ranges.specs.declared.dialect.Dialect.TheVariants.{Cargo, Npm, CrateCargo}
use Rattle.semver_ranges.specs.declared.dialect.Dialect.TheVariants.{CrateNpm}
use Rattle.semver_ranges.specs.DialectTable.{limit}

-- the sides of a version: below every version with its three numbers, directly below it, directly
-- above it, and above every version with its first n numbers
pub data SideValue : Type 0 where
  below : SideValue
  at : SideValue
  past : SideValue
  above : ℕ → SideValue

-- the versions that have the stated numbers are a block. This is the side at which it begins. In
-- the crate's dialects it is directly below the zero-filled version. In the others, with fewer than
-- three numbers, it is below every version with these numbers, except for Cargo's `<` and npm's `~`
-- with one or two. With three numbers it is directly below the zero-filled version. npm has two
-- exceptions, which begin below every version with these numbers: `^0.2.3`, and the left side of a
-- hyphen range, if neither states a pre-release
abbrev pub block_begins : Dialect → Operator → List ℕ → Bool → SideValue
block_begins CrateCargo operator s pre = at
block_begins CrateNpm operator s pre = at
block_begins Cargo operator [] pre = below
block_begins Cargo Less s pre = at
block_begins Cargo operator (a ∷ b ∷ c ∷ rest) pre = at
block_begins Cargo operator s pre = below
block_begins Npm operator [] pre = below
block_begins Npm Caret (a ∷ b ∷ c ∷ rest) pre = if not pre && (a == 0) then below else at
block_begins Npm Hyphen (a ∷ b ∷ c ∷ rest) pre = if pre then at else below
block_begins Npm operator (a ∷ b ∷ c ∷ rest) pre = at
block_begins Npm Tilde s pre = at
block_begins Npm operator s pre = below

-- the side at which the block ends
abbrev pub block_ends : List ℕ → SideValue
block_ends (a ∷ b ∷ c ∷ rest) = past
block_ends s = above (length s)

-- the sides if nothing is stated; in Cargo's dialect no operator is written then
abbrev pub sides_of_nothing : Dialect → Operator → SideValue → Option SideValue × Option SideValue
sides_of_nothing Cargo operator first = (Some first, None)
sides_of_nothing dialect Less first = (None, Some first)
sides_of_nothing dialect Greater first = (None, Some first)
sides_of_nothing dialect operator first = (Some first, None)

-- the side at which `~` ends
abbrev pub tilde_ends : List ℕ → SideValue
tilde_ends (a ∷ b ∷ c ∷ rest) = above 2
tilde_ends s = above (length s)

-- the side at which a term without an operator ends
abbrev pub bare_ends : Dialect → List ℕ → SideValue
bare_ends Cargo (a ∷ b ∷ c ∷ rest) = above (leading_place (a ∷ b ∷ c ∷ rest))
bare_ends CrateCargo (a ∷ b ∷ c ∷ rest) = above (leading_place (a ∷ b ∷ c ∷ rest))
bare_ends dialect s = block_ends s

-- the side above which the versions of `>` are
abbrev pub greater_begins : Dialect → List ℕ → SideValue
greater_begins Cargo s = block_ends s
greater_begins Npm s = block_ends s
greater_begins dialect s = past

-- the sides if a number is stated
abbrev pub sides_of_stated : Dialect → Operator → List ℕ → SideValue
    → Option SideValue × Option SideValue
sides_of_stated dialect Less s first = (None, Some first)
sides_of_stated dialect LessOrEqual s first = (None, Some (block_ends s))
sides_of_stated dialect GreaterOrEqual s first = (Some first, None)
sides_of_stated dialect Hyphen s first = (Some first, None)
sides_of_stated dialect Greater s first = (Some (greater_begins dialect s), None)
sides_of_stated dialect Tilde s first = (Some first, Some (tilde_ends s))
sides_of_stated dialect Caret s first = (Some first, Some (above (leading_place s)))
sides_of_stated dialect Bare s first = (Some first, Some (bare_ends dialect s))
sides_of_stated dialect Equal s first = (Some first, Some (block_ends s))

-- the table: the sides by the operator, the stated numbers, and whether a pre-release is stated
abbrev pub sides : Dialect → Operator → List ℕ → Bool → Option SideValue × Option SideValue
sides dialect operator [] pre =
    sides_of_nothing dialect operator (block_begins dialect operator [] pre)
sides dialect operator s pre =
    sides_of_stated dialect operator s (block_begins dialect operator s pre)

-- whether the upper side is directly above the version
abbrev pub ends_past : Option SideValue → Bool
ends_past (Some past) = true
ends_past _ = false

-- ---- which numbers fit

-- whether the number that is raised for a side is below a limit, if one is raised
abbrev pub may_rise : ℕ → Option SideValue → List ℕ → Bool
may_rise most (Some (above (suc k))) ns = nat_lt (slice_index ns k) most
may_rise most side ns = true

-- whether the stated numbers are within the limit of the dialect, and also those that are raised
-- for the sides of their zero-filled version
abbrev pub sides_fit : Dialect → Operator → List ℕ → PlainVersion → Bool
sides_fit dialect operator s z = list_all (λ n. nat_le n (limit dialect)) s
    && (may_rise (limit dialect) (sides dialect operator s (not (is_empty z.pre))).0 (numbers z)
    && may_rise (limit dialect) (sides dialect operator s (not (is_empty z.pre))).1 (numbers z))

abbrev pub term_fits : Dialect → Simple → Bool
term_fits dialect s = sides_fit dialect s.operator (stated s.partial) (zero_filled s.partial)

-- the index of the number that is raised for a side, or 0 if none is, and below, of the one that is
-- raised for the lower side, or else for the upper one
abbrev pub raised_for : Option SideValue → ℕ
raised_for (Some (above (suc k))) = k
raised_for side = 0

abbrev pub raised_index : Option SideValue × Option SideValue → ℕ
raised_index (Some (above k), upper) = raised_for (Some (above k))
raised_index (lower, upper) = raised_for upper

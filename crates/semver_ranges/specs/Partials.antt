-- The numbers and the pre-release that a partial version states, and its zero-filled version.
use Rattle.std.specs.Prelude.{ℕ, suc, ◌^◌, ◌&&◌, Bool, if◌then◌else◌, ◌==◌, nat_lt, not, List, []}
use Rattle.std.specs.Prelude.{◌∷◌, length, map, take_while, slice_index}
use Rattle.std.specs.Str.{all_ascii_digits}
use Rattle.std.specs.Str.Parse.{digits_value}
use Rattle.semver_ranges.specs.RangeTree.{PartialTree, components, is_wildcard}
pub use Rattle.semver_ranges.specs.RangeTree.{pre_parts}
use Rattle.semver_texts.specs.Texts.{Text, is_empty}
use Rattle.semver_texts.specs.Versions.{IdentifierValue, numeric, alphanumeric, PlainVersion}

-- whether a number is at most 2^64 - 1
abbrev pub fits_u64 : ℕ → Bool
fits_u64 n = nat_lt n (2 ^ 64)

-- how a part is kept: if it consists of digits and their number is at most 2^64 - 1, as that
-- number, otherwise as its text
abbrev pub kept : Text → IdentifierValue
kept part =
    if all_ascii_digits part
    && fits_u64 (digits_value 10 part) then numeric (digits_value 10 part) else alphanumeric part

-- the stated numbers: those before the first wildcard
abbrev pub stated : PartialTree → List ℕ
stated p = map (digits_value 10) (take_while (λ c. not (is_wildcard c)) (components p))

-- whether a partial version states no number
abbrev pub states_nothing : PartialTree → Bool
states_nothing p = is_empty (stated p)

-- the pre-release that counts: if three numbers are stated, the parts as they are kept, otherwise
-- none
abbrev pub pre_release : PartialTree → List IdentifierValue
pre_release p = if length (stated p) == 3 then map kept (pre_parts p) else []

-- the version with the first three of these numbers, zeros for the missing ones, and this
-- pre-release
abbrev pub filled : List ℕ → List IdentifierValue → PlainVersion
filled s pre =
    record { major = slice_index s 0; minor = slice_index s 1; patch = slice_index s 2; pre = pre }

-- the zero-filled version: the stated numbers, zeros for the missing ones, and the pre-release if
-- it counts
abbrev pub zero_filled : PartialTree → PlainVersion
zero_filled p = filled (stated p) (pre_release p)

-- the version 0.0.0
abbrev pub zero_version : PlainVersion
zero_version = filled [] []

-- the position, counted from 1, of the first number that isn't 0; if all are 0, the last position;
-- without numbers, 0
abbrev pub leading_place : List ℕ → ℕ
leading_place [] = 0
leading_place (n ∷ []) = 1
leading_place (n ∷ next ∷ rest) = if n == 0 then suc (leading_place (next ∷ rest)) else 1

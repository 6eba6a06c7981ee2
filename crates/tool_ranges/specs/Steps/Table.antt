-- A means of proof, which no public clause cites: on which side of its bounds a version is for a
-- term, and the bounds for the pre-releases that count by default.
use Rattle.std.specs.Prelude.{ℕ, Bool, true, ◌&&◌, ◌||◌, not}
use Rattle.std.specs.Prelude.{List, [], ◌∷◌, Option, Some, None}
use Rattle.std.specs.Ordering.{is_ge}
use Rattle.semver_texts.specs.Precedence.{precedence}
use Rattle.semver_texts.specs.Texts.{is_empty}
use Rattle.semver_texts.specs.Versions.{numbers, PlainVersion}
use Rattle.semver_ranges.specs.declared.operator.Operator.{Operator}
use Rattle.semver_ranges.specs.declared.operator.Operator.TheVariants.{Less, LessOrEqual, Greater}
use Rattle.semver_ranges.specs.declared.operator.Operator.TheVariants.{GreaterOrEqual, Caret}
use Rattle.semver_ranges.specs.declared.operator.Operator.TheVariants.{Hyphen}
use Rattle.semver_ranges.specs.RewritingTable.{up}
use Rattle.semver_ranges.specs.Sides.{SideValue, below, past, above}
use Rattle.version_sets.specs.Steps.Cuts.{is_above, is_above_upper, is_between}
use Rattle.semver_ranges.specs.declared.dialect.Dialect.{Dialect}
use Rattle.semver_ranges.specs.declared.dialect.Dialect.TheVariants.{Cargo, Npm}
use Rattle.tool_ranges.specs.NpmMeaning.{is_zero}
use Rattle.semver_ranges.specs.Sides.{ends_past, sides}

-- in Cargo's dialect, no pre-release is in the block of one or two stated numbers, except with `^`
abbrev pub sides_beside : Operator → List ℕ → Bool → Option SideValue × Option SideValue
sides_beside Caret s pre = sides Cargo Caret s pre
sides_beside Greater s pre = sides Cargo Greater s pre
sides_beside GreaterOrEqual s pre = sides Cargo Greater s pre
sides_beside Hyphen s pre = sides Cargo Greater s pre
sides_beside Less s pre = (None, Some below)
sides_beside LessOrEqual s pre = (None, Some below)
sides_beside operator s pre = (Some below, Some below)

-- the sides in Cargo's dialect; no pre-release is between them if nothing is stated
abbrev pub cargo_sides : Operator → List ℕ → Bool → Option SideValue × Option SideValue
cargo_sides operator [] pre = (Some below, Some below)
cargo_sides operator (a ∷ b ∷ c ∷ rest) pre = sides Cargo operator (a ∷ b ∷ c ∷ rest) pre
cargo_sides operator s pre = sides_beside operator s pre

-- whether a version is above the lower side by default in npm's dialect. There the side is at a
-- version: at z, directly above z, or at the raised z. If it is at z, and z is 0.0.0, there is no
-- lower bound, except for `=0.0.0` (`is_one`), whose upper side is directly above z
abbrev pub is_past_release : Option SideValue → Bool → PlainVersion → PlainVersion → Bool
is_past_release None is_one z v = true
is_past_release (Some past) is_one z v = is_above past z v
is_past_release (Some (above n)) is_one z v = is_ge (precedence v (up n (numbers z)))
is_past_release (Some _) is_one z v = (is_zero z && not is_one) || is_ge (precedence v z)

-- whether a version is between two sides by default in npm's dialect
abbrev pub is_between_releases : Option SideValue × Option SideValue
    → PlainVersion → PlainVersion → Bool
is_between_releases sides z v =
    is_past_release sides.0 (ends_past sides.1) z v && not (is_above_upper sides.1 z v)

-- whether a version is within the bounds of a term
abbrev pub is_within : Dialect → Operator → List ℕ → PlainVersion → PlainVersion → Bool
is_within dialect operator s z v = is_between (sides dialect operator s (not (is_empty z.pre))) z v

-- whether a pre-release that counts by default is within the bounds of a term
abbrev pub is_counted_within : Dialect → Operator → List ℕ → PlainVersion → PlainVersion → Bool
is_counted_within Cargo operator s z v =
    is_between (cargo_sides operator s (not (is_empty z.pre))) z v
is_counted_within Npm operator s z v =
    is_between_releases (sides Npm operator s (not (is_empty z.pre))) z v
is_counted_within dialect operator s z v = is_within dialect operator s z v

-- What replaces the version of a term that is raised to a newer version.
use Prim.Native.Char.{code}
use Rattle.std.specs.Prelude.{ℕ, ◌+◌, ◌^◌, ◌<◌, ◌==◌, Bool, true, false, ◌||◌, ◌&&◌, not}
use Rattle.std.specs.Prelude.{nat_lt, codes}
use Rattle.std.specs.Prelude.{if◌then◌else◌, Option, Some, is_some, [], ◌∷◌, option_map}
use Rattle.semver_texts.specs.Texts.{Text}
use Rattle.semver_versions.specs.VersionRefs.{VersionRefValue}
use Rattle.semver_ranges.specs.declared.dialect.Dialect.{Dialect}
use Rattle.semver_ranges.specs.declared.dialect.Dialect.TheVariants.{Cargo}
use Rattle.range_terms.specs.declared.term.Component.{Component}
use Rattle.range_terms.specs.declared.term.Component.TheVariants.{Number, Wildcard}
use Rattle.semver_ranges.specs.declared.operator.Operator.{Operator}
use Rattle.semver_ranges.specs.declared.operator.Operator.TheVariants.{Bare, Less, Tilde, Caret}
use Rattle.range_terms.specs.Rewriting.{component_with, with_version}
use Rattle.range_terms.specs.WrittenTerms.{WrittenVersion}
use Rattle.range_upgrades.specs.declared.raised_versions.Form.{Form}
use Rattle.range_upgrades.specs.declared.raised_versions.Form.TheVariants.{AsWritten, InFull}

-- whether a component is written, and is a wildcard
abbrev pub is_wildcard : Option Component → Bool
is_wildcard (Some (Wildcard c)) = true
is_wildcard _ = false

-- whether a component is written, and is a number above 0
abbrev pub is_above_zero : Option Component → Bool
is_above_zero (Some (Number n)) = nat_lt 0 n
is_above_zero _ = false

-- whether a version has a wildcard
abbrev pub has_wildcard : WrittenVersion → Bool
has_wildcard written =
    is_wildcard (Some written.major) || (is_wildcard written.minor || is_wildcard written.patch)

-- whether a dialect is Cargo's
abbrev pub is_cargo : Dialect → Bool
is_cargo Cargo = true
is_cargo _ = false

-- whether an operator means the same if its version has three numbers instead of fewer
abbrev pub takes_three : Dialect → Operator → WrittenVersion → Bool
takes_three dialect Caret written = true
takes_three dialect Tilde written = is_some written.minor
takes_three dialect Bare written = is_cargo dialect
takes_three dialect _ written = false

-- whether a term with fewer than three numbers may have three of them when it is raised
abbrev pub has_full_form : Dialect → Operator → WrittenVersion → Bool
has_full_form dialect operator written =
    not (has_wildcard written) && takes_three dialect operator written

-- a version with three components
abbrev pub in_full : WrittenVersion → WrittenVersion
in_full written = record written { minor = Some (Number 0); patch = Some (Number 0) }

-- whether the identifiers of a pre-release are only `0`
abbrev pub is_zero : Text → Bool
is_zero (b ∷ []) = b == code "0"
is_zero _ = false

-- the numbers of the next bound above a newer version: the last number above 0 of the written
-- version says which one is raised by one, or the first if there is none; what follows it is 0
abbrev pub next_numbers : WrittenVersion → VersionRefValue → ℕ × ℕ × ℕ
next_numbers written v =
    if is_above_zero written.patch then (v.major, v.minor, v.patch + 1)
    else (if is_above_zero written.minor then (v.major, v.minor + 1, 0) else (v.major + 1, 0, 0))

-- the number of a newer version that is raised by one in the next bound above it
abbrev pub raised_number : WrittenVersion → VersionRefValue → ℕ
raised_number written v =
    if is_above_zero written.patch then v.patch
    else (if is_above_zero written.minor then v.minor else v.major)

-- a version with three other numbers, in the form of the written one: with as many components, its
-- wildcards and its `v`, and with the pre-release `0` if it has that
abbrev pub bound_with : WrittenVersion → ℕ × ℕ × ℕ → WrittenVersion
bound_with written numbers =
    record {
      span = written.span;
      has_v = written.has_v;
      major = component_with numbers.0 written.major;
      minor = option_map (component_with numbers.1) written.minor;
      patch = option_map (component_with numbers.2) written.patch;
      pre = if is_zero written.pre then codes "0" else [];
      build = [];
    }

-- what replaces the version after `<`: the next bound above a newer version
abbrev pub next_bound : WrittenVersion → VersionRefValue → WrittenVersion
next_bound written v = bound_with written (next_numbers written v)

-- the version in which the numbers of a newer one are written: the written one, or, if three
-- numbers are needed and the term means the same with them, a version with three components
abbrev pub shape_of : Dialect → Form → Operator → WrittenVersion → WrittenVersion
shape_of dialect AsWritten operator written = written
shape_of dialect InFull operator written =
    if has_full_form dialect operator written then in_full written else written

-- what replaces the version of a term that is raised to a newer version
abbrev pub raised_version : Dialect → Form → Operator → WrittenVersion → VersionRefValue
    → WrittenVersion
raised_version dialect form Less written v = next_bound written v
raised_version dialect form operator written v =
    with_version (shape_of dialect form operator written) v

-- whether there is such a version: the number that is raised by one isn't too large
abbrev pub HasRaised : Operator → WrittenVersion → VersionRefValue → Type 0
HasRaised Less written v = raised_number written v + 1 < 2 ^ 64
HasRaised operator written v = Unit {0}

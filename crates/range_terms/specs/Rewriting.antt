-- The numbers of a version in the form of another version, which is written in a range.
use Rattle.std.specs.Prelude.{ℕ, Bool, true, false, ◌&&◌, if◌then◌else◌, Option, Some, []}
use Rattle.std.specs.Prelude.{option_map}
use Rattle.semver_versions.specs.VersionRefs.{VersionRefValue}
use Rattle.range_terms.specs.declared.term.Component.{Component}
use Rattle.range_terms.specs.declared.term.Component.TheVariants.{Number, Wildcard}
use Rattle.range_terms.specs.WrittenTerms.{WrittenVersion}

-- a component with another number; a wildcard stays as it is
abbrev pub component_with : ℕ → Component → Component
component_with n (Number m) = Number n
component_with n (Wildcard c) = Wildcard c

-- whether a component is written, and is a number
abbrev pub is_number : Option Component → Bool
is_number (Some (Number n)) = true
is_number _ = false

-- whether a version states three numbers
abbrev pub states_three : WrittenVersion → Bool
states_three v = is_number (Some v.major) && (is_number v.minor && is_number v.patch)

-- the numbers of a version, in the form of the written one: with as many components, its wildcards
-- and its `v`. The pre-release of the version is kept if the written one states three numbers
abbrev pub with_version : WrittenVersion → VersionRefValue → WrittenVersion
with_version written v =
    record {
      span = written.span;
      has_v = written.has_v;
      major = component_with v.major written.major;
      minor = option_map (component_with v.minor) written.minor;
      patch = option_map (component_with v.patch) written.patch;
      pre = if states_three written then v.pre else [];
      build = [];
    }

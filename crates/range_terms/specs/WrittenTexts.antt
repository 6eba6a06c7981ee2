-- The text of a version as it is written in a range.
use Prim.Native.Char.{code}
use Rattle.std.specs.Prelude.{if◌then◌else◌, Option, Some, None, [], ◌∷◌, ◌++◌, decimal, codes}
use Rattle.std.specs.Prelude.{encode_utf8}
use Rattle.semver_texts.specs.Texts.{Text}
use Rattle.semver_versions.specs.VersionOrder.{part_text}
use Rattle.range_terms.specs.declared.term.Component.{Component}
use Rattle.range_terms.specs.declared.term.Component.TheVariants.{Number, Wildcard}
use Rattle.range_terms.specs.WrittenTerms.{WrittenVersion}

-- the text of a component
abbrev pub component_text : Component → Text
component_text (Number n) = decimal n
component_text (Wildcard c) = encode_utf8 c

-- a dot and the text of a component, if there is one
abbrev pub dot_text : Option Component → Text
dot_text None = []
dot_text (Some c) = code "." ∷ component_text c

-- the text of a version: its `v`, its components separated by dots, its pre-release and its build
-- metadata
abbrev pub version_text : WrittenVersion → Text
version_text v =
    (if v.has_v then codes "v" else [])
    ++ (component_text v.major ++ (dot_text v.minor ++ (dot_text v.patch
    ++ (part_text (codes "-") v.pre ++ part_text (codes "+") v.build))))

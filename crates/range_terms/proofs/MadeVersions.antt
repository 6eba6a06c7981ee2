-- The components and parts that are read from a word are those of its partial version.
use Rattle.std.proofs.Common.{◌≡◌, true, List, refl, sym, ap, ◌∙◌}
use Rattle.std.proofs.Common.{Option, Some, None}
use Rattle.std.specs.List.{join_with_byte, list_all}
use Rattle.semver_texts.specs.Texts.{Text, cut_at_dots, is_part}
use Rattle.semver_texts.specs.declared.grammar.Grammar.{Grammar}
use Rattle.semver_texts.proofs.PartRuns.{joined_cut}
use Rattle.semver_ranges.specs.declared.partial.Components.{Components}
use Rattle.semver_ranges.specs.RangeTree.{PartialTree, SpellsPartial, build_parts, one, three, two}
use Rattle.semver_ranges.specs.declared.partial.Component as read
use Rattle.semver_ranges.specs.Steps.PartialViews.{AreWritten, IsComponentOf, IsWrittenAs}
use Rattle.semver_ranges.specs.Steps.Reading.{after_v, component, with_first}
use Rattle.semver_ranges.proofs.ReadingPieces.{PartialAt, component_sound, first_sound}
use Rattle.range_terms.specs.declared.term.Component.{Component}
use Rattle.range_terms.specs.WrittenTerms.{component_of, major_of, minor_of, patch_of}

-- a text is its pieces between dots, joined by dots
pub joined : (parts : List Text) (t : Text) → parts ≡ cut_at_dots t → t ≡ join_with_byte 46 parts
joined parts t e = sym (joined_cut t) ∙ ap (join_with_byte 46) (sym e)

-- the build metadata of a partial version that was read consists of parts
partial_parts : (p : PartialTree) (w : Text) → SpellsPartial p w → list_all is_part (build_parts p) ≡ true
partial_parts (one a) w spelled = refl
partial_parts (two a b) w spelled = refl
partial_parts (three a b c pre build) w (components, (pres, builds), text) = builds

found_parts : (t : Text) (o : Option (PartialTree × Text)) (p : PartialTree) (rest : Text) → PartialAt t o → o ≡ Some (p, rest)
    → list_all is_part (build_parts p) ≡ true
found_parts t None p rest at e = cc
found_parts t (Some found) p rest (w, spelled, text) e = let same : found.0 ≡ p = cc in rw (← same) (partial_parts found.0 w spelled)

pub build_read : (d : Grammar) (t : Text) (p : PartialTree) (rest : Text) (c : Components) → with_first (component (after_v d t)) ≡ Some (p, rest)
    → AreWritten p c → list_all is_part (cut_at_dots c.build.now) ≡ true
build_read d t p rest c e written =
    ap (list_all is_part) (sym written.build)
    ∙ found_parts (after_v d t) _ p rest (first_sound (after_v d t) (component (after_v d t)) (component_sound (after_v d t))) e

-- the components are those of the partial version
pub record Made (p : PartialTree) (first : Component) (second third : Option Component) : Type 0 where
  pub major : first ≡ major_of p
  pub minor : second ≡ minor_of p
  pub patch : third ≡ patch_of p

-- what is made of components that were read: of a missing one nothing
abbrev Makes : Option read.Component → Option Component → Type 0
Makes o made = (o ≡ None → made ≡ None) × ((w : Text) → IsWrittenAs w o → made ≡ Some (component_of w))

module _ (c : Components) (a : Component) (b b' : Option Component) (first : (w : Text) → IsComponentOf w c.major → a ≡ component_of w)
    (second : Makes c.minor b) (third : Makes c.patch b') where
  pub components_made : (p : PartialTree) → AreWritten p c → Made p a b b'
  components_made (one x) w =
      record { major = first x w.components.0; minor = second.0 w.components.1; patch = third.0 w.components.2 }
  components_made (two x y) w =
      record { major = first x w.components.0; minor = second.1 y w.components.1; patch = third.0 w.components.2 }
  components_made (three x y z pre build) w =
      record { major = first x w.components.0; minor = second.1 y w.components.1; patch = third.1 z w.components.2 }

-- A means of proof, cited in no public clause: how private contracts see a long word.
use Rattle.std.specs.Prelude.{◌≡◌, ◌++◌, Bool, ◌&&◌}
use Rattle.std.specs.List.{list_all}
use Rattle.semver_ranges.specs.declared.npm_lengths.Kind.{Kind}
use Rattle.semver_ranges.specs.declared.npm_lengths.Kind.TheVariants.{Number, PreRelease, Build}
use Rattle.semver_texts.specs.declared.grammar.Grammar.{Grammar}
use Rattle.semver_texts.specs.Texts.{Text, cut_at_dots}
use Rattle.semver_ranges.specs.RangeTree.{PartialTree, SpellsPartial}
use Rattle.semver_ranges.specs.Steps.Reading.{after_v}
use Rattle.semver_ranges.specs.NpmLengths.{is_short_number, is_short_pre, is_short_build}

-- whether a part of this kind isn't too long
abbrev pub is_short_as : Kind → Text → Bool
is_short_as Number t = is_short_number t
is_short_as PreRelease t = is_short_pre t
is_short_as Build t = is_short_build t

-- whether no number, no part of the pre-release and no part of the build metadata is too long, if
-- each text is cut at its dots
abbrev pub are_short_parts : Text → Text → Text → Bool
are_short_parts numbers pre build = list_all (is_short_as Number) (cut_at_dots numbers)
    && (list_all (is_short_as PreRelease) (cut_at_dots pre)
    && list_all (is_short_as Build) (cut_at_dots build))

-- the text begins with the word of a partial version, and the rest follows
pub record IsBefore (d : Grammar) (p : PartialTree) (text rest : Text) : Type 0 where
  pub back : Text
  pub spelled : SpellsPartial p back
  pub after_is : after_v d text ≡ back ++ rest

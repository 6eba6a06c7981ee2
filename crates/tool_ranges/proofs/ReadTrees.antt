-- Reading a text in a dialect gives its only tree, and a call returns an error if the text has no
-- tree or a number of its tree doesn't fit.
use Rattle.std.proofs.Common.{◌≡◌, true, false, Some, None, refl, sym, ap, ◌∙◌}
use Rattle.std.proofs.lemmas.Bool.{both_ways}
use Rattle.std.specs.Prelude.{Ok, Err}
use Rattle.std.specs.List.{list_all}
use Rattle.std.specs.Str.{chars}
use Rattle.semver_texts.specs.Texts.{Text}
use Rattle.semver_texts.specs.declared.grammar.Grammar.TheVariants as grammar
use Rattle.semver_texts.proofs.Lists.{by_test}
use Rattle.semver_ranges.specs.declared.range_set.RangeError.{RangeError}
use Rattle.semver_ranges.specs.declared.range_set.RangeError.TheVariants.{NotARange, NumberTooLarge, OutOfMemory}
use Rattle.semver_ranges.specs.Steps.Reading.{read}
use Rattle.semver_ranges.proofs.ReadingComplete.{tree_read}
use Rattle.semver_ranges.proofs.ReadingSound.{read_sound}
use Rattle.semver_ranges.specs.RangeTree.{SetTree}
use Rattle.semver_ranges.specs.declared.dialect.Dialect.{Dialect}
use Rattle.semver_ranges.specs.declared.dialect.Dialect.TheVariants.{Cargo, Npm}
use Rattle.tool_ranges.specs.Dialects.{RefusesAs, SpellsAs, fits_as}
use Rattle.tool_ranges.specs.NpmGrammar.{may_stand}
use Rattle.tool_ranges.specs.Steps.TextEvents.{read_as}
use Rattle.tool_ranges.specs.Steps.Reading.{IsRefusedAs}
use Rattle.tool_ranges.proofs.Comparators.{requirement_complete, requirement_sound}

pub sound_as : (d : Dialect) (t : Text) (tree : SetTree) → read_as d t ≡ Some tree → SpellsAs d tree t
sound_as Cargo t tree e = requirement_sound t tree e
sound_as Npm t tree e = by_test (list_all may_stand (chars t))
    (λ y. let is : read grammar.Npm t ≡ Some tree = rw y at e in record { spelled = read_sound grammar.Npm t tree is; characters = y })
    (λ n. let no : None ≡ Some tree = rw n at e in cc)
sound_as d t tree e = read_sound grammar.Crate t tree e

pub complete_as : (d : Dialect) (t : Text) (tree : SetTree) → SpellsAs d tree t → read_as d t ≡ Some tree
complete_as Cargo t tree h = requirement_complete t tree h
complete_as Npm t tree h = rw h.characters (tree_read grammar.Npm tree t h.spelled)
complete_as d t tree h = tree_read grammar.Crate tree t h

module _ (d : Dialect) (t : Text) where
  pub same_read : (tree other : SetTree) → read_as d t ≡ Some tree → SpellsAs d other t → tree ≡ other
  same_read tree other e h = let both : Some tree ≡ Some other = sym e ∙ complete_as d t other h in cc

  none_read : (tree : SetTree) → read_as d t ≡ None → SpellsAs d tree t → ⊥
  none_read tree e h = let both : None ≡ Some tree = sym e ∙ complete_as d t tree h in cc

  unfit : (tree other : SetTree) → read_as d t ≡ Some tree → fits_as d tree ≡ true → SpellsAs d other t → fits_as d other ≡ false → ⊥
  unfit tree other e fit h large = both_ways _ large (sym (ap (fits_as d) (same_read tree other e h)) ∙ fit)

  pub answered_as : {A : Type 0} (x : A) (tree : SetTree) → read_as d t ≡ Some tree → fits_as d tree ≡ true → RefusesAs d t (Ok x)
  answered_as x tree e fit = record {
    accepted = (tree, sound_as d t tree e, fit);
    not_a_range = (λ wrong. cc, λ none. absurd (none (tree, sound_as d t tree e)));
    too_large = (λ wrong. cc, λ (other, h, large). absurd (unfit tree other e fit h large));
    out_of_memory = λ wrong. cc;
  }

  pub refused_as : {A : Type 0} (e : RangeError) → IsRefusedAs d t e → RefusesAs {A = A} d t (Err e)
  refused_as NotARange none = record {
    accepted = tt;
    not_a_range = (λ _ (tree, h). none_read tree none h, λ _. refl);
    too_large = (λ wrong. cc, λ (tree, h, large). absurd (none_read tree none h));
    out_of_memory = λ wrong. cc;
  }
  refused_as NumberTooLarge (tree, is, large) = record {
    accepted = tt;
    not_a_range = (λ wrong. cc, λ none. absurd (none (tree, sound_as d t tree is)));
    too_large = (λ _. (tree, sound_as d t tree is, large), λ _. refl);
    out_of_memory = λ wrong. cc;
  }
  refused_as OutOfMemory h = absurd h

  pub out_of_memory_as : {A : Type 0} (tree : SetTree) → read_as d t ≡ Some tree → fits_as d tree ≡ true
      → RefusesAs {A = A} d t (Err OutOfMemory)
  out_of_memory_as tree e fit = record {
    accepted = tt;
    not_a_range = (λ wrong. cc, λ none. absurd (none (tree, sound_as d t tree e)));
    too_large = (λ wrong. cc, λ (other, h, large). absurd (unfit tree other e fit h large));
    out_of_memory = λ _. (tree, sound_as d t tree e, fit);
  }

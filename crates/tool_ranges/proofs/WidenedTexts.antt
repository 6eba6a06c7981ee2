-- Two texts that were checked: the first one is widened to the second if and only if its events are, and
-- then no version is lost.
use Rattle.std.proofs.Common.{◌≡◌, ◌↔◌, Bool, true, List, sym, ap, subst, true≢false, ◌∙◌}
use Rattle.std.specs.Prelude.{Some}
use Rattle.semver_texts.specs.Texts.{Text}
use Rattle.semver_texts.specs.Versions.{VersionValue}
use Rattle.semver_ranges.specs.declared.range_set.RangeError.{RangeError}
use Rattle.semver_ranges.specs.declared.range_set.RangeError.TheVariants.{NotARange, NumberTooLarge, OutOfMemory}
use Rattle.semver_ranges.specs.RangeTree.{Simple, SetTree}
use Rattle.version_sets.specs.VersionSets.{Fits}
use Rattle.version_sets.specs.declared.rules.PreReleases.{PreReleases}
use Rattle.semver_ranges.specs.declared.dialect.Dialect.{Dialect}
use Rattle.tool_ranges.specs.Dialects.{SpellsAs, fits_as}
use Rattle.tool_ranges.specs.Meanings.{meant_by}
use Rattle.tool_ranges.specs.Steps.Reading.{IsRefusedAs}
use Rattle.tool_ranges.specs.Steps.TextEvents.{events_in, ranges_of, read_as}
use Rattle.tool_ranges.specs.Steps.WidenedEvents.{AreWidenedEvents}
use Rattle.tool_ranges.specs.Widening.{AreWidened, IsWidened, alternatives}
use Rattle.tool_ranges.proofs.MatchedEvents.{HasSome, some_ranges}
use Rattle.tool_ranges.proofs.ReadTrees.{complete_as, same_read, sound_as}
use Rattle.tool_ranges.proofs.WidenedEvents.{events_widened}
use Rattle.tool_ranges.proofs.WidenedRanges.{same_ranges, widened_meaning}

-- a text that was refused is no range whose numbers fit
pub refused : (d : Dialect) (t : Text) (e : RangeError) → IsRefusedAs d t e → (tree : SetTree) → SpellsAs d tree t
    → fits_as d tree ≡ true → ⊥
refused d t NotARange none tree spelled fit = let never = sym none ∙ complete_as d t tree spelled in cc
refused d t NumberTooLarge (other, is, large) tree spelled fit =
    true≢false (sym fit ∙ sym (ap (fits_as d) (same_read d t other tree is spelled)) ∙ large)
refused d t OutOfMemory never tree spelled fit = absurd never

lists_widened : (old new : List (List Simple)) → HasSome old → HasSome new
    → AreWidenedEvents (events_in old) (events_in new) ↔ AreWidened old new
lists_widened old new (ss, others, first) (rs, added, second) = rw (first, second) (events_widened ss rs others added)

module _ (d : Dialect) (t u : Text) (tree other : SetTree) (is : read_as d t ≡ Some tree) (also : read_as d u ≡ Some other) (b : Bool)
    (found : (b ≡ true) ↔ AreWidenedEvents (events_in (ranges_of d tree)) (events_in (ranges_of d other))) where
  found_widened : (b ≡ true) ↔ AreWidened (alternatives d tree) (alternatives d other)
  found_widened =
      let lists = lists_widened (ranges_of d tree) (ranges_of d other)
      (some_ranges d t tree (sound_as d t tree is)) (some_ranges d u other (sound_as d u other also)) in
      rw (same_ranges d tree, same_ranges d other) (λ e. lists.0 (found.0 e), λ are. found.1 (lists.1 are))

  pub is_widened_text : fits_as d tree ≡ true → fits_as d other ≡ true → (b ≡ true) ↔ IsWidened d t u
  is_widened_text fit fits = (
    λ e. record {
      old_tree = tree;
      new_tree = other;
      old_spelled = sound_as d t tree is;
      new_spelled = sound_as d u other also;
      old_fits = fit;
      new_fits = fits;
      widened = found_widened.0 e;
    },
    λ it. found_widened.1
        (subst (λ r. AreWidened (alternatives d tree) (alternatives d r)) (sym (same_read d u other it.new_tree also it.new_spelled))
        (subst (λ r. AreWidened (alternatives d r) (alternatives d it.new_tree))
        (sym (same_read d t tree it.old_tree is it.old_spelled)) it.widened)),
  )

  pub keeps_text : b ≡ true → (rule : PreReleases) (old new : SetTree) (v : VersionValue) → SpellsAs d old t → SpellsAs d new u
      → Fits v.plain → meant_by d rule old v ≡ true → meant_by d rule new v ≡ true
  keeps_text e rule old new v spelled spells small met =
      ap (λ r. meant_by d rule r v) (sym (same_read d u other new also spells))
      ∙ widened_meaning d rule tree other v small (found_widened.0 e)
      (ap (λ r. meant_by d rule r v) (same_read d t tree old is spelled) ∙ met)

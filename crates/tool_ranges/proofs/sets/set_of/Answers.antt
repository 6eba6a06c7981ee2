use Rattle.std.proofs.Common.{◌≡◌, true, Some, List, [], refl, sym, ap, ◌∙◌, rules}
use Rattle.semver_texts.specs.Texts.{Text}
use Rattle.semver_texts.specs.Versions.{PlainVersion, without_build}
use Rattle.semver_ranges.specs.Steps.RangeEvents.{Event}
use Rattle.semver_ranges.specs.DialectTable.{grammar_of}
use Rattle.tool_ranges.specs.Steps.Matching as matching
use Rattle.semver_ranges.specs.Steps.Checked.{GivesEvent, HasEvents}
use Rattle.tool_ranges.specs.Steps.Checked.{IsCheckedAs}
use Rattle.tool_ranges.specs.Steps.TextEvents.{events_in, ranges_of}
use Rattle.tool_ranges.specs.Steps.Matching.{after, counts, takes_all}
use Rattle.semver_ranges.proofs.LeftEvents.{FirstFits, first_fits, next_first}
use Rattle.tool_ranges.proofs.MatchedEvents.{ranges_fit, says_so}
use Rattle.tool_ranges.proofs.MatchedMeanings.{same_plain}
use Rattle.tool_ranges.proofs.MatchedRanges.{means}
use Rattle.tool_ranges.proofs.ReadingLaws.{one_tree}
use Rattle.tool_ranges.proofs.ReadTrees.{sound_as}
use Rattle.std.proofs.lemmas.Result.{IfOk-weaker}
use Rattle.tool_ranges.proofs.sets.set_of.Goals as goal
use Rattle.tool_ranges.proofs.sets.set_of.Goals.{In-Simple}
use Rattle.version_sets.specs.PreReleaseRules.{numbers_fit}
use Rattle.version_sets.specs.VersionSets.{Fits}
use Rattle.tool_ranges.specs.Meanings.{meant_by}
use Rattle.tool_ranges.specs.Steps.Building.{known}

pub loop-event-init : goal.loop-event-init
loop-event-init c =
    let d = c.args.dialect in
    let all = c.takes_all-all.result in (
      λ t read. (
        read.0,
        events_in (ranges_of d read.0),
        sound_as d t read.0 read.1,
        read.3,
        ranges_fit d t read.0 read.1 ∙ read.2,
        λ v small. ap (λ p. after d all v p (events_in (ranges_of d read.0))) (sym (c.new-building.ensures.known all v small)),
      ),
      c.new-building.ensures.prints _,
    )

abbrev Checks : In-Simple → Text → Type 0
Checks c t = IsCheckedAs c.args.dialect t c.args.checked

first : (c : In-Simple) (t : Text) (is : Checks c t)
    → FirstFits (grammar_of c.args.dialect) c.args.dialect (c.loop-event.invariant.0 t is).1 c.next.new.self (c.loop-event.invariant.0 t is).4 c.in-Simple.simple
first c t is =
    let so_far = c.loop-event.invariant.0 t is in
    let d = c.args.dialect in
    let gives : (left : List Event) → HasEvents (grammar_of d) c.loop-event.checked left
    → GivesEvent (grammar_of d) left (Some c.in-Some.event) c.next.new.self = search rules in
    first_fits (grammar_of d) d so_far.1 c.next.new.self so_far.4 c.in-Simple.simple (rw c.in-Simple.is at (gives so_far.1 so_far.3))

pub push_term-requires : goal.push_term-requires
push_term-requires c = let here = first (goal.at.push_term-requires c).In-Simple c.requires.0 c.requires.1 in (here.s, here.is)

pub loop-event-preserved-in-Continue-1 : goal.loop-event-preserved-in-Continue-1
loop-event-preserved-in-Continue-1 c =
    let d = c.args.dialect in
    let all = c.takes_all-all.result in (
      λ t is.
          let so_far = c.loop-event.invariant.0 t is in
          let here = first (goal.at.loop-event-preserved-in-Continue-1 c).In-Simple t is in (
            so_far.0,
            here.others,
            so_far.2,
            here.has,
            here.others_fit,
            λ v small. so_far.5 v small ∙ ap (after d all v (known all v c.loop-event.building)) here.whole
                ∙ ap (λ p. after d all v p here.others)
                (sym (c.in_ok-push_term-in-Simple.ensures.known here.s v here.is here.fits small)),
          ),
      c.in_ok-push_term-in-Simple.ensures.prints c.loop-event.invariant.1,
    )

pub returns-clause-meaning : goal.returns-clause-meaning
returns-clause-meaning c = IfOk-weaker c.into_set.result _ _ (λ set is t checked tree v spelled small.
    let so_far = c.loop-event.invariant.0 t checked in
    let d = c.args.dialect in
    let rule = c.args.rule in
    let all = takes_all rule in
    let gives : (left : List Event) → HasEvents (grammar_of d) c.loop-event.checked left → left ≡ [] = search rules in
    let progress = matching.ended (counts all v.plain) (known all v.plain c.loop-event.building) in
    let told = ap (matching.ended (counts all v.plain)) (rw c.takes_all-all.ensures at (so_far.5 v.plain small)
    ∙ ap (after d all v.plain (known all v.plain c.loop-event.building)) (gives so_far.1 so_far.3)) in
    is v.plain small
    ∙ means v.plain (fitting v.plain small) d rule so_far.0 progress (says_so d all v.plain t so_far.0 so_far.2 progress told)
    ∙ same_plain d rule so_far.0 (without_build v.plain) v refl
    ∙ ap (λ tree. meant_by d rule tree v) (one_tree d so_far.0 tree t so_far.2 spelled))
    c.into_set.ensures.meaning
  where
    fitting : (w : PlainVersion) → Fits w → numbers_fit w ≡ true
    fitting w small = search rules

pub loop-event-preserved : goal.loop-event-preserved
loop-event-preserved c =
    let d = c.args.dialect in
    let all = c.takes_all-all.result in
    let gives : (left : List Event) → HasEvents (grammar_of d) c.loop-event.checked left
    → GivesEvent (grammar_of d) left (Some c.in-Some.event) c.next.new.self = search rules in (
      λ t is.
          let so_far = c.loop-event.invariant.0 t is in
          let here = next_first (grammar_of d) d so_far.1 c.next.new.self so_far.4 (rw c.in-NextRange.is at (gives so_far.1 so_far.3)) in (
            so_far.0,
            here.0,
            so_far.2,
            here.1,
            here.2,
            λ v small. so_far.5 v small ∙ ap (after d all v (known all v c.loop-event.building)) here.3
                ∙ ap (λ p. after d all v p here.0) (sym (c.in_ok-end_range-in-NextRange.ensures.known v small)),
          ),
      c.in_ok-end_range-in-NextRange.ensures.prints _ c.loop-event.invariant.1,
    )

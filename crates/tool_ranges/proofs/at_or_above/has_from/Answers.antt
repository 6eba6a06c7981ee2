use Rattle.std.proofs.Common.{◌≡◌, ◌&&◌, ◌||◌, List, [], Some, ap, refl, rules, subst, sym, ◌∙◌}
use Rattle.semver_texts.specs.Texts.{Text}
use Rattle.semver_versions.specs.VersionRefs.{version_of}
use Rattle.semver_ranges.specs.Steps.RangeEvents.{Event}
use Rattle.version_sets.specs.Steps.Ends.{in_each}
use Rattle.semver_texts.specs.declared.grammar.Grammar.{Grammar}
use Rattle.semver_ranges.specs.DialectTable.{grammar_of}
use Rattle.semver_ranges.specs.Steps.Checked.{GivesEvent, HasEvents}
use Rattle.tool_ranges.specs.Steps.Checked.{IsCheckedAs}
use Rattle.tool_ranges.specs.Steps.TextEvents.{events_in, ranges_of}
use Rattle.tool_ranges.specs.Steps.Matching.{after, begun, counts, ended, taken, takes_all, term_met}
use Rattle.tool_ranges.specs.Steps.Reaching.{states_some}
use Rattle.semver_ranges.proofs.LeftEvents.{FirstFits, first_fits, next_first}
use Rattle.tool_ranges.proofs.MatchedEvents.{ranges_fit}
use Rattle.tool_ranges.proofs.MatchedTerms.{everything}
use Rattle.tool_ranges.proofs.ReachedVersions.{every_release, found_more, knows_first, knows_range, knows_term, matched_more, some_range}
use Rattle.tool_ranges.proofs.ReadTrees.{sound_as}
use Rattle.tool_ranges.proofs.at_or_above.has_from.Goals as goal
use Rattle.tool_ranges.proofs.at_or_above.has_from.Goals.{In-Simple}

pub loop-event-init : goal.loop-event-init
loop-event-init c = λ t read.
    let d = c.args.dialect in
    let all = takes_all c.args.rule in
    let events = events_in (ranges_of d read.0) in
    let fit = ranges_fit d t read.0 read.1 ∙ read.2 in (
      read.0,
      events,
      λ v. begun (counts all v),
      sound_as d t read.0 read.1,
      read.3,
      fit,
      λ v small. refl,
      knows_first d c.args.rule (version_of c.args.version.now).plain c.new-here.result c.args.checked events c.new-here.ensures.all read.3 fit,
    )

abbrev Checks : In-Simple → Text → Type 0
Checks c t = IsCheckedAs c.args.dialect t c.args.checked

first : (c : In-Simple) (t : Text) (is : Checks c t)
    → FirstFits (grammar_of c.args.dialect) c.args.dialect (c.loop-event.invariant t is).1 c.next.new.self (c.loop-event.invariant t is).5 c.in-Simple.simple
first c t is =
    let so_far = c.loop-event.invariant t is in
    let d = c.args.dialect in
    let gives : (left : List Event) → HasEvents (grammar_of d) c.loop-event.terms left
    → GivesEvent (grammar_of d) left (Some c.in-Some.event) c.next.new.self = search rules in
    first_fits (grammar_of d) d so_far.1 c.next.new.self so_far.5 c.in-Simple.simple (rw c.in-Simple.is at (gives so_far.1 so_far.4))

pub with_term-here-requires : goal.with_term-here-requires
with_term-here-requires c = let here = first (goal.at.with_term-here-requires c).In-Simple c.requires.0 c.requires.1 in (here.s, here.is)

pub loop-event-preserved-in-Simple : goal.loop-event-preserved-in-Simple
loop-event-preserved-in-Simple c = λ t is.
    let d = c.args.dialect in
    let rule = c.args.rule in
    let all = takes_all rule in
    let so_far = c.loop-event.invariant t is in
    let here = first (goal.at.loop-event-preserved-in-Simple c).In-Simple t is in (
      so_far.0,
      here.others,
      λ v. taken d all v here.s (so_far.2 v),
      so_far.3,
      here.has,
      here.others_fit,
      λ v small. so_far.6 v small ∙ ap (after d all v (so_far.2 v)) here.whole,
      knows_term d rule (version_of c.args.version.now).plain c.loop-event.here c.loop-event.begin c.loop-event.found c.loop-event.matches_all
          c.loop-event.matched_all so_far.2 so_far.1 so_far.7 here.s here.others c.with_term-here.result c.matches_everything-matches_all.result here.whole
          (λ v small. c.with_term-here.ensures.meaning here.s v here.is here.fits small
          ∙ ap (λ all. in_each c.loop-event.here v && term_met d all v here.s) c.takes_all-all.ensures)
          (c.matches_everything-matches_all.ensures ∙ everything d here.s c.in-Simple.simple here.is here.fits),
    )

pub loop-event-preserved : goal.loop-event-preserved
loop-event-preserved c = λ t is.
    let d = c.args.dialect in
    let rule = c.args.rule in
    let all = takes_all rule in
    let so_far = c.loop-event.invariant t is in
    let gives = subst (λ (g : Grammar). (left : List Event) → HasEvents g c.loop-event.terms left
    → GivesEvent g left (Some c.in-Some.event) c.next.new.self) c.grammar-grammar.ensures.grammar c.in-Some.ensures.gives in
    let next = next_first (grammar_of d) d so_far.1 c.next.new.self so_far.5 (rw c.in-NextRange.is at (gives so_far.1 so_far.4)) in (
      so_far.0,
      next.0,
      λ v. ended (counts all v) (so_far.2 v),
      so_far.3,
      next.1,
      next.2,
      λ v small. so_far.6 v small ∙ ap (after d all v (so_far.2 v)) next.3,
      knows_range d rule (version_of c.args.version.now).plain c.loop-event.here c.loop-event.begin c.loop-event.found c.loop-event.matches_all
          c.loop-event.matched_all so_far.2 so_far.1 so_far.7 (λ v. ap (λ es. states_some es v) next.3) c.has_some-found.result
          (c.has_some-found.ensures so_far.7.range so_far.7.has so_far.7.fit) next.0 c.new-here-in-NextRange.result c.next.new.self c.new-here-in-NextRange.ensures.all next.1 next.2,
    )

pub returns-then-matched_all-matches_all : goal.returns-then-matched_all-matches_all
returns-then-matched_all-matches_all c = λ t tree is spelled.
    let d = c.args.dialect in
    let rule = c.args.rule in
    let x = (version_of c.args.version.now).plain in
    let so_far = c.loop-event.invariant t is in
    let gives : (left : List Event) → HasEvents (grammar_of d) c.loop-event.terms left → left ≡ [] = search rules in
    every_release d rule x t so_far.0 tree so_far.3 spelled so_far.2
    (λ v small. so_far.6 v small ∙ ap (after d (takes_all rule) v (so_far.2 v)) (gives so_far.1 so_far.4))
    (c.loop-event.matched_all || c.loop-event.matches_all)
    (matched_more d rule x c.loop-event.here c.loop-event.begin c.loop-event.found c.loop-event.matches_all c.loop-event.matched_all so_far.2
    so_far.1 so_far.7)
    c.new.result c.has_release_from.result
    (ap (λ b. (c.loop-event.matched_all || c.loop-event.matches_all) && b) (sym c.is_by_default_of_npm.ensures)
    ∙ c.if-matched_all-matches_all.true)
    c.new.ensures.all c.has_release_from.ensures

pub returns : goal.returns
returns c = λ t tree is spelled.
    let d = c.args.dialect in
    let rule = c.args.rule in
    let x = (version_of c.args.version.now).plain in
    let so_far = c.loop-event.invariant t is in
    let gives : (left : List Event) → HasEvents (grammar_of d) c.loop-event.terms left → left ≡ [] = search rules in
    let end = gives so_far.1 so_far.4 in
    some_range d rule x t so_far.0 tree so_far.3 spelled so_far.2
    (λ v small. so_far.6 v small ∙ ap (after d (takes_all rule) v (so_far.2 v)) end)
    (c.loop-event.matched_all || c.loop-event.matches_all)
    (matched_more d rule x c.loop-event.here c.loop-event.begin c.loop-event.found c.loop-event.matches_all c.loop-event.matched_all so_far.2
    so_far.1 so_far.7)
    (c.loop-event.found || c.has_some.result)
    (ap (λ b. (c.loop-event.matched_all || c.loop-event.matches_all) && b) (sym c.is_by_default_of_npm.ensures)
    ∙ c.if-matched_all-matches_all.false)
    (found_more d rule x c.loop-event.here c.loop-event.begin c.loop-event.found c.loop-event.matches_all c.loop-event.matched_all so_far.2
    so_far.1 so_far.7 (λ v. ap (λ es. states_some es v) end) c.has_some.result
    (c.has_some.ensures so_far.7.range so_far.7.has so_far.7.fit))

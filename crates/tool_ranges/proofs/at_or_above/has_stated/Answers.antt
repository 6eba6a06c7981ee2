use Rattle.std.proofs.Common.{◌≡◌, ◌&&◌, List, [], Some, ap, refl, subst, sym, true, true≢false, ◌∙◌}
use Rattle.std.specs.List.{list_all}
use Rattle.semver_ranges.specs.Steps.RangeEvents.{Event, event_fits}
use Rattle.semver_texts.specs.declared.grammar.Grammar.{Grammar}
use Rattle.semver_versions.specs.VersionRefs.{version_of}
use Rattle.version_sets.specs.Steps.Ends.{in_each}
use Rattle.version_sets.specs.VersionSets.{IsPreRelease}
use Rattle.semver_ranges.specs.DialectTable.{grammar_of}
use Rattle.semver_ranges.specs.Sides.{term_fits}
use Rattle.semver_ranges.specs.Steps.Checked.{GivesEvent, HasEvents}
use Rattle.tool_ranges.specs.Steps.Reaching.{states_some}
use Rattle.semver_ranges.proofs.LeftEvents.{FirstFits, first_fits, next_first}
use Rattle.tool_ranges.proofs.MatchedTerms.{stated_at}
use Rattle.tool_ranges.proofs.ReachedVersions.{HasNamed, HasStated, has_same, none_stated, stated_first, stated_later, stated_other}
use Rattle.tool_ranges.proofs.at_or_above.has_stated.Goals as goal
use Rattle.tool_ranges.proofs.at_or_above.has_stated.Goals.{In-Simple}

abbrev Fit : In-Simple → List Event → Type 0
Fit c es = list_all (event_fits (term_fits c.args.dialect)) es ≡ true

-- the next event is a term
first : (c : In-Simple) (es : List Event) (begun : HasEvents (grammar_of c.args.dialect) c.args.begin es) (fit : Fit c es)
    → FirstFits (grammar_of c.args.dialect) c.args.dialect (c.loop-event.invariant es begun fit).0 c.next.new.self
    (c.loop-event.invariant es begun fit).2 c.in-Simple.simple
first c es begun fit =
    let d = c.args.dialect in
    let so_far = c.loop-event.invariant es begun fit in
    let gives = subst (λ (g : Grammar). (left : List Event) → HasEvents g c.loop-event.terms left
    → GivesEvent g left (Some c.in-Some.event) c.next.new.self) c.grammar-grammar.ensures.grammar c.in-Some.ensures.gives in
    first_fits (grammar_of d) d so_far.0 c.next.new.self so_far.2 c.in-Simple.simple (rw c.in-Simple.is at (gives so_far.0 so_far.1))

pub returns-then-has_numbers_of : goal.returns-then-has_numbers_of
returns-then-has_numbers_of c = λ es begun fit.
    let h = c.args.here.now in
    let x = (version_of c.args.version.now).plain in
    let so_far = c.loop-event.invariant es begun fit in
    let here = first (goal.at.returns-then-has_numbers_of c).In-Simple es begun fit in
    let named : HasNamed h x here.s = has_same IsPreRelease x _ _
    (λ v kind. ap (λ b. in_each h v && b) (stated_at c.args.dialect here.s c.in-Simple.simple here.is here.fits v))
    (c.has_numbers_of.ensures.0 c.if-has_numbers_of.true) in (
      λ e. so_far.3.1 (subst (HasStated h x) (sym here.whole) (stated_first h x here.s here.others named)),
      λ has. refl,
    )

pub loop-event-preserved : goal.loop-event-preserved
loop-event-preserved c = λ es begun fit.
    let h = c.args.here.now in
    let x = (version_of c.args.version.now).plain in
    let so_far = c.loop-event.invariant es begun fit in
    let here = first (goal.at.loop-event-preserved c).In-Simple es begun fit in
    let none : ¬ (HasNamed h x here.s) = λ has. true≢false (sym (c.has_numbers_of.ensures.1 (has_same IsPreRelease x _ _
    (λ v kind. ap (λ b. in_each h v && b) (sym (stated_at c.args.dialect here.s c.in-Simple.simple here.is here.fits v))) has))
    ∙ c.if-has_numbers_of.false) in (
      here.others,
      here.has,
      here.others_fit,
      (
        λ has. stated_other h x here.s here.others none (subst (HasStated h x) here.whole (so_far.3.0 has)),
        λ has. so_far.3.1 (subst (HasStated h x) (sym here.whole) (stated_later h x here.s here.others has)),
      ),
    )

pub returns-in-NextRange : goal.returns-in-NextRange
returns-in-NextRange c = λ es begun fit.
    let d = c.args.dialect in
    let h = c.args.here.now in
    let x = (version_of c.args.version.now).plain in
    let so_far = c.loop-event.invariant es begun fit in
    let gives = subst (λ (g : Grammar). (left : List Event) → HasEvents g c.loop-event.terms left
    → GivesEvent g left (Some c.in-Some.event) c.next.new.self) c.grammar-grammar.ensures.grammar c.in-Some.ensures.gives in
    let next = next_first (grammar_of d) d so_far.0 c.next.new.self so_far.2 (rw c.in-NextRange.is at (gives so_far.0 so_far.1)) in (
      λ e. absurd (true≢false (sym e)),
      λ has. absurd (none_stated h x so_far.0 (λ v. ap (λ es. states_some es v) next.3) (so_far.3.0 has)),
    )

pub returns : goal.returns
returns c = λ es begun fit.
    let h = c.args.here.now in
    let x = (version_of c.args.version.now).plain in
    let so_far = c.loop-event.invariant es begun fit in
    let gives = subst (λ (g : Grammar). (left : List Event) → HasEvents g c.loop-event.terms left → left ≡ []) c.grammar-grammar.ensures.grammar
    c.in_default.ensures.gives in (
      λ e. absurd (true≢false (sym e)),
      λ has. absurd (none_stated h x so_far.0 (λ v. ap (λ es. states_some es v) (gives so_far.0 so_far.1)) (so_far.3.0 has)),
    )

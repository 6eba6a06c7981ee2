use Rattle.std.proofs.Common.{◌∙◌, ◌≡◌, true, ap, subst, sym}
use Rattle.std.specs.List.{list_all}
use Rattle.std.proofs.lemmas.Bool.{and_parts}
use Rattle.version_sets.specs.Steps.Places.{IsOfKind}
use Rattle.version_sets.specs.Steps.Within.{IsOfKindWithin}
use Rattle.version_sets.proofs.WithinLaws.{first_two, found_here, goes_on}
use Rattle.version_sets.proofs.within.first_inside.Goals as goal

pub returns-then-is_below-clause-first : goal.returns-then-is_below-clause-first
returns-then-is_below-clause-first g c =
    found_here (IsOfKindWithin g.T.Boundary.are_releases c.args.most) _ _ _ _ _ _
    (first_two g.T.Boundary.place c.in-Some.ensures.cases.0 c.in-Some-split_first.ensures.cases.0) c.in_ok-first.ensures.first
    c.loop-begin.invariant.0 (sym c.is_below.ensures ∙ c.if-is_below.true)

pub returns-then-is_below-clause-boundary : goal.returns-then-is_below-clause-boundary
returns-then-is_below-clause-boundary g c = λ p all.
    let place = g.T.Boundary.place in
    let two = first_two place c.in-Some.ensures.cases.0 c.in-Some-split_first.ensures.cases.0 in
    ap (λ b. p (place b.now)) c.in_ok-first.ensures.boundary
    ∙ (and_parts _ _ (subst (λ xs. list_all p xs ≡ true) two (c.loop-begin.invariant.2 p all))).0

pub loop-begin-preserved : goal.loop-begin-preserved
loop-begin-preserved g c =
    let kind = g.T.Boundary.are_releases in
    let two = first_two g.T.Boundary.place c.in-Some.ensures.cases.0 c.in-Some-split_first.ensures.cases.0 in
    let on = goes_on (IsOfKindWithin kind c.args.most) _ _ _ _ _ _ two c.in_ok-first.ensures.first
    c.loop-begin.invariant.0 (sym c.is_below.ensures ∙ c.if-is_below.false) (IsOfKind kind) c.loop-begin.invariant.1 in (
      on.0,
      on.1,
      λ p all. (and_parts _ _ (and_parts _ _ (subst (λ xs. list_all p xs ≡ true) two (c.loop-begin.invariant.2 p all))).1).1,
    )

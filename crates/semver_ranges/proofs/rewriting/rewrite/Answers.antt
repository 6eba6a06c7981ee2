use Rattle.std.proofs.Common.{◌≡◌, Bool, Option, Some, Err, Ok, List, [], ◌∷◌, ◌∙◌, sym, subst, rules}
use Rattle.std.proofs.lemmas.Bool.{and_parts}
use Rattle.semver_texts.specs.Texts.{Text}
use Rattle.semver_ranges.specs.DialectTable.{grammar_of}
use Rattle.semver_ranges.specs.declared.range_set.RangeError.{RangeError}
use Rattle.semver_ranges.specs.declared.range_set.RangeError.TheVariants.{NotARange, NumberTooLarge, OutOfMemory}
use Rattle.semver_ranges.specs.RangeTree.{Simple}
use Rattle.semver_ranges.specs.Steps.Answers.{IsInvalidBy, IsRefusalBy}
use Rattle.semver_ranges.specs.Steps.Checked.{FindsFirst, IsSurveyed}
use Rattle.semver_ranges.specs.Steps.CursorViews.{IsBegunIn}
use Rattle.semver_ranges.specs.Steps.RangeEvents.{Event, events, one_simple}
use Rattle.semver_ranges.proofs.CheckedEvents.{begun_left, only, refused, surveyed}
use Rattle.semver_ranges.proofs.FitCells.{read_fits}
use Rattle.semver_ranges.proofs.rewriting.rewrite.Goals as goal
use Rattle.semver_ranges.proofs.rewriting.rewrite.Goals.{In-Some, else-fit-is_at_end+in_ok-count, then-fit-is_at_end}

-- the first term, and the events after it
first : (c : In-Some) (t : Text) → IsBegunIn (grammar_of c.args.dialect) t c.args.begin
    → FindsFirst (grammar_of c.args.dialect) (events (grammar_of c.args.dialect) t) (Some (c.in-Some.first, c.in-Some.rest))
first c t begun =
    subst (λ g. IsBegunIn g t c.args.begin → FindsFirst g (events g t) (Some (c.in-Some.first, c.in-Some.rest))) c.grammar.ensures.grammar
    (c.in-Some.ensures t) begun

-- an error for which nothing is allocated
invalid : (o : Option (List Event)) (fit : Simple → Bool) (e : RangeError) → IsInvalidBy o fit e → IsRefusalBy o fit e
invalid o fit NotARange h = h
invalid o fit NumberTooLarge h = h
invalid o fit OutOfMemory h = absurd h

pub one_range-made-requires : goal.one_range-made-requires
one_range-made-requires c =
    let here = first (goal.at.one_range-made-requires c).In-Some c.requires.0 c.requires.1 in
    (here.0, here.2)

pub returns-in_err-count : goal.returns-in_err-count
returns-in_err-count c = λ t begun.
    let d = c.args.dialect in
    let here = first (goal.at.returns-in_err-count c).In-Some t begun in
    let error = c.in_err-count.field-0.0 in
    let rest : IsSurveyed d c.fits-fit.result here.1 (Err error) = rw c.in_err-count.was at (c.survey.ensures here.1 here.3) in
    let is : c.from_residual.result ≡ Err error = search rules in
    rw is (invalid _ _ error (refused d _ here.0 c.fits-fit.result here.1 here.4 (c.fits-fit.ensures ∙ read_fits here.0 c.in-Some.first here.2 d) error rest))

pub all_ranges-made-requires : goal.all_ranges-made-requires
all_ranges-made-requires c =
    let d = c.args.dialect in
    let t = c.requires.0 in
    let here = first (goal.at.all_ranges-made-requires c).In-Some t c.requires.1 in
    let rest : IsSurveyed d c.fits-fit.result here.1 (Ok c.in_ok-count.count) = rw c.in_ok-count.was at (c.survey.ensures here.1 here.3) in
    let all = surveyed d _ here.0 c.fits-fit.result here.1 here.4 (c.fits-fit.ensures ∙ read_fits here.0 c.in-Some.first here.2 d) c.in_ok-count.count rest in
    (all.0, begun_left (grammar_of d) t c.args.begin all.0 c.requires.1 all.1, all.2)

pub returns-in-Ok : goal.returns-in-Ok
returns-in-Ok c = λ t begun.
    let d = c.args.dialect in
    let g = grammar_of d in
    let here = first (goal.at.returns-in-Ok c).In-Some t begun in
    let fits = c.fits-fit.ensures ∙ read_fits here.0 c.in-Some.first here.2 d in
    elim c.if-fit-is_at_end.branch [
      | then-fit-is_at_end w ↦
          let both = and_parts _ _ w.if-fit-is_at_end.true in
          let it = only d (events g t) here.0 c.fits-fit.result here.1 here.4 fits both.0 (c.is_at_end.ensures g here.1 here.3 both.1) in
          let made = (rw (sym w.made-is ∙ c.in-Ok.is) at w.one_range-made.ensures) here.0 here.2 (sym fits ∙ both.0) in
          (one_simple here.0 ∷ [], it.0, it.1, λ i. record { ranges = made i; compat = c.mode.ensures i })
      | else-fit-is_at_end+in_ok-count w ↦
          let rest : IsSurveyed d c.fits-fit.result here.1 (Ok w.in_ok-count.count) = rw w.in_ok-count.was at (w.survey.ensures here.1 here.3) in
          let all = surveyed d _ here.0 c.fits-fit.result here.1 here.4 fits w.in_ok-count.count rest in
          let made = (rw (sym w.made-is ∙ c.in-Ok.is) at w.all_ranges-made.ensures) all.0
          (begun_left g t c.args.begin all.0 begun all.1) all.2 in
          (all.0, all.1, all.2, λ i. record { ranges = made i; compat = c.mode.ensures i })
    ]

pub returns-in-Err : goal.returns-in-Err
returns-in-Err c = λ t begun.
    let d = c.args.dialect in
    let g = grammar_of d in
    let here = first (goal.at.returns-in-Err c).In-Some t begun in
    let fits = c.fits-fit.ensures ∙ read_fits here.0 c.in-Some.first here.2 d in
    elim c.if-fit-is_at_end.branch [
      | then-fit-is_at_end w ↦
          let both = and_parts _ _ w.if-fit-is_at_end.true in
          let it = only d (events g t) here.0 c.fits-fit.result here.1 here.4 fits both.0 (c.is_at_end.ensures g here.1 here.3 both.1) in
          (one_simple here.0 ∷ [], it.0, it.1)
      | else-fit-is_at_end+in_ok-count w ↦
          let rest : IsSurveyed d c.fits-fit.result here.1 (Ok w.in_ok-count.count) = rw w.in_ok-count.was at (w.survey.ensures here.1 here.3) in
          surveyed d _ here.0 c.fits-fit.result here.1 here.4 fits w.in_ok-count.count rest
    ]

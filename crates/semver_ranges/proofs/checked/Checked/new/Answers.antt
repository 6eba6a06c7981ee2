use Rattle.std.proofs.Common.{◌≡◌, Some, Err, Ok, [], ◌∷◌, refl, ◌∙◌, subst, rules}
use Rattle.std.proofs.lemmas.Bool.{and_parts}
use Rattle.semver_texts.specs.Texts.{Text}
use Rattle.semver_ranges.specs.DialectTable.{grammar_of}
use Rattle.semver_ranges.specs.Steps.Checked.{FindsFirst, IsSurveyed}
use Rattle.semver_ranges.specs.Steps.CursorViews.{HasLeft, IsBegunIn}
use Rattle.semver_ranges.specs.Steps.RangeEvents.{events, one_simple}
use Rattle.semver_ranges.proofs.CheckedEvents.{begun_left, only, refused, surveyed}
use Rattle.semver_ranges.proofs.FitCells.{read_fits}
use Rattle.semver_ranges.proofs.checked.Checked.new.Goals as goal
use Rattle.semver_ranges.proofs.checked.Checked.new.Goals.{In-Some}

-- the first term, and the events after it
first : (c : In-Some) (t : Text) → IsBegunIn (grammar_of c.args.dialect) t c.args.begin
    → FindsFirst (grammar_of c.args.dialect) (events (grammar_of c.args.dialect) t) (Some (c.in-Some.first, c.in-Some.rest))
first c t begun =
    subst (λ g. IsBegunIn g t c.args.begin → FindsFirst g (events g t) (Some (c.in-Some.first, c.in-Some.rest))) c.grammar.ensures.grammar
    (c.in-Some.ensures t) begun

pub returns-then-fit-is_at_end : goal.returns-then-fit-is_at_end
returns-then-fit-is_at_end c = λ t begun.
    let d = c.args.dialect in
    let g = grammar_of d in
    let here = first (goal.at.returns-then-fit-is_at_end c).In-Some t begun in
    let both = and_parts _ _ c.if-fit-is_at_end.true in
    let none = c.is_at_end.ensures g here.1 here.3 both.1 in
    let it = only d (events g t) here.0 c.fits-fit.result here.1 here.4 (c.fits-fit.ensures ∙ read_fits here.0 c.in-Some.first here.2 d) both.0 none in
    (one_simple here.0 ∷ [], it.0, it.1, (here.0, [], here.2, subst (HasLeft g c.in-Some.rest) none here.3, refl))

pub returns-in_err-survey : goal.returns-in_err-survey
returns-in_err-survey c = λ t begun.
    let d = c.args.dialect in
    let here = first (goal.at.returns-in_err-survey c).In-Some t begun in
    let error = c.in_err-survey.field-0.0 in
    let rest : IsSurveyed d c.fits-fit.result here.1 (Err error) = rw c.in_err-survey.was at (c.survey.ensures here.1 here.3) in
    let is : c.from_residual.result ≡ Err error = search rules in
    rw is (refused d _ here.0 c.fits-fit.result here.1 here.4 (c.fits-fit.ensures ∙ read_fits here.0 c.in-Some.first here.2 d) error rest)

pub returns : goal.returns
returns c = λ t begun.
    let d = c.args.dialect in
    let here = first (goal.at.returns c).In-Some t begun in
    let rest : IsSurveyed d c.fits-fit.result here.1 (Ok c.in_ok-survey.field-0) = rw c.in_ok-survey.was at (c.survey.ensures here.1 here.3) in
    let all = surveyed d _ here.0 c.fits-fit.result here.1 here.4 (c.fits-fit.ensures ∙ read_fits here.0 c.in-Some.first here.2 d)
    c.in_ok-survey.field-0 rest in
    (all.0, all.1, all.2, begun_left (grammar_of d) t c.args.begin all.0 begun all.1)

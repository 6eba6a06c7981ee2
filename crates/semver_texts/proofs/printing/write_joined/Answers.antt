use Rattle.std.proofs.Common.{List, ℕ, Some, Ok, Option, ◌++◌, refl, ap}
use Rattle.std.specs.Fmt.{◌++?◌}
use Rattle.std.proofs.Output.{has_written_append, has_written_of_eq, displays_on_ok_of_eq}
use Rattle.semver_texts.proofs.Joins.{flat_map_step, joined_all}
use Rattle.semver_texts.proofs.printing.write_joined.Goals as goal

pub loop-item-preserved : goal.loop-item-preserved
loop-item-preserved g c = λ text known plain.
    let separator = c.args.separator.now in
    let item = c.item-item.result in
    let so_far = c.loop-item.invariant text known plain in
    let wrote = displays_on_ok_of_eq _ _ _ (Ok c.in_ok-write-2.field-0) _ _
    (ap (λ (o : Option (List ℕ)). Some separator ++? o) (known item)) c.in_ok-write-2.ensures.writes in
    let more = flat_map_step (λ x. separator ++ text x) c.in-Some.rest.now c.loop-item.item-index item c.loop-item-test.true c.item-item.is
    in
    has_written_of_eq _ _ _ _ _ more (has_written_append _ _ _ _ _ _ so_far (wrote so_far.plain refl))

pub returns : goal.returns
returns g c = λ text known plain ok.
    let first = displays_on_ok_of_eq _ _ _ (Ok c.in_ok-write.field-0) _ _
    (known c.in-Some.first.now) c.in_ok-write.ensures.writes plain refl in
    let rest = c.loop-item.invariant text known first.plain in
    let whole = joined_all text c.args.separator.now c.args.items.now c.in-Some.first.now c.in-Some.rest.now c.loop-item.item-index
    c.in-Some.ensures.cases.0 c.loop-item-test.false in
    has_written_of_eq _ _ _ _ _ whole (has_written_append _ _ _ _ _ _ first rest)

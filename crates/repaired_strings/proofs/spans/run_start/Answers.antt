use Rattle.std.proofs.Common.{◌≡◌, ◌-◌, sym, ◌∙◌, arith, inl, inr}
use Rattle.std.proofs.lemmas.Bool.{cases_lt}
use Rattle.repaired_strings.proofs.spans.run_start.Goals as goal

pub loop-start-preserved : goal.loop-start-preserved
loop-start-preserved c =
    let so_far = c.loop-start.invariant in (
      (let within = so_far.0 in omega (arith, within)),
      λ i from before. elim (cases_lt i c.loop-start.start) [
        | inl less ↦
            let same : i ≡ c.loop-start.start - 1 = omega (arith, less, from) in
            rw same (sym c.is_of_same_kind.ensures ∙ c.if-is_of_same_kind.true)
        | inr more ↦ so_far.1 i more before
      ],
    )

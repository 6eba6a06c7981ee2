use Rattle.std.proofs.Common.{◌≡◌, sym, ◌∙◌, arith, inl, inr}
use Rattle.std.proofs.lemmas.Bool.{cases_lt}
use Rattle.repaired_strings.proofs.spans.run_end.Goals as goal

pub loop-at-preserved : goal.loop-at-preserved
loop-at-preserved c = λ i from before. elim (cases_lt i c.loop-at.at) [
  | inl less ↦ c.loop-at.invariant i from less
  | inr more ↦
      let same : i ≡ c.loop-at.at = omega (arith, before, more) in
      rw same (sym c.is_of_same_kind.ensures ∙ c.if-not-is_of_same_kind.false)
]

use Rattle.std.proofs.Common.{◌≡◌, ℕ, suc, ◌+◌, ◌-◌, ◌∷◌, ◌∙◌, ap, arith, length, sym}
use Rattle.std.specs.List.{slice_split}
use Rattle.semver_texts.specs.Texts.{is_dot}
use Rattle.invalid_ranges.specs.TooLarge.{component_begin}
use Rattle.invalid_ranges.proofs.FirstOffsets.{next_component, some_components}
use Rattle.invalid_ranges.proofs.limit.+component_begin.Goals as goal

pub returns-clause-value : goal.returns-clause-value
returns-clause-value t c =
    let k : ℕ = c.args.index - 1 in
    let here = c.split_at_dot.result.0.now in
    let more = c.in-Some.after.now in
    let index : suc k ≡ c.args.index = omega (arith, c.if-index-eq0.false) in
    let split = rw c.in-Some.is at c.split_at_dot.ensures in
    let step = next_component k here (slice_split is_dot more) (some_components more)
    ∙ ap (λ m. length here + 1 + m) (sym c.component_begin.ensures.value) in
    sym step ∙ (λ i. component_begin (index i) (here ∷ slice_split is_dot more)) ∙ ap (component_begin c.args.index) (sym split.0)

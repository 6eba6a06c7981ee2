use Rattle.std.proofs.Common.{◌+◌, ◌-◌, Some, ap, length, refl, sym, ◌∙◌}
use Rattle.std.specs.Prelude.{option_map}
use Rattle.invalid_ranges.specs.TooLarge.{number_begin}
use Rattle.invalid_ranges.proofs.FirstOffsets.{number_at, within}
use Rattle.invalid_ranges.proofs.limit.offset_in.Goals as goal

pub returns-in_err-index-clause-value : goal.returns-in_err-index-clause-value
returns-in_err-index-clause-value c = λ d x is.
    let large = c.too_large.ensures.value (record { operator = c.args.operator; partial = x.partial }) refl is.written in
    c.from_residual.ensures ∙ ap (option_map (number_begin c.args.len x)) (sym c.in_err-index.was ∙ large)

pub slice_bounds-word-count : goal.slice_bounds-word-count
slice_bounds-word-count c =
    let (d, x, is, short) = c.requires in
    within d x c.args.version.now is c.without_v-numbers.result.now c.without_v-numbers.ensures

pub returns-clause-value : goal.returns-clause-value
returns-clause-value c = λ d x is.
    let large = c.too_large.ensures.value (record { operator = c.args.operator; partial = x.partial }) refl is.written in
    let numbers = c.without_v-numbers.result.now in
    let offset = ap (λ k. c.args.len - length numbers + k) c.component_begin.ensures.value
    ∙ number_at d x c.args.version.now is numbers c.without_v-numbers.ensures c.in_ok-index.index c.in_ok-index.ensures.small c.args.len in
    ap Some offset ∙ ap (option_map (number_begin c.args.len x)) (sym c.in_ok-index.was ∙ large)

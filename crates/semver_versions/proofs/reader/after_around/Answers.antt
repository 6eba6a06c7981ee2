use Rattle.std.proofs.Common.{[], arith, refl, sym, ◌∙◌, length, length-drop, ap}
use Rattle.semver_versions.proofs.WhiteSpaces.{goes_on, left_is, none_around}
use Rattle.semver_versions.proofs.reader.after_around.Goals as goal

pub loop-grammar-init : goal.loop-grammar-init
loop-grammar-init c = ([], none_around c.args.grammar, refl)

pub returns-then-len-eq0 : goal.returns-then-len-eq0
returns-then-len-eq0 c =
    let w = c.loop-grammar.invariant in (w.0, w.1, w.2, sym c.around_len-len.ensures.size ∙ c.if-len-eq0.true)

pub loop-grammar-preserved : goal.loop-grammar-preserved
loop-grammar-preserved c =
    rw (left_is c.loop-grammar.rest.now c.around_len-len.result)
    (goes_on c.args.grammar c.args.bytes.now c.loop-grammar.rest.now c.around_len-len.result c.loop-grammar.invariant
    c.around_len-len.ensures.size c.if-len-eq0.false)

pub loop-grammar-smaller : goal.loop-grammar-smaller
loop-grammar-smaller c =
    omega (
      arith,
      ap length (left_is c.loop-grammar.rest.now c.around_len-len.result),
      length-drop c.around_len-len.result c.loop-grammar.rest.now,
      c.around_len-len.ensures.within,
      c.if-len-eq0.false,
    )

use Rattle.std.proofs.Common.{◌≡◌, ◌<◌, ◌-◌, length, get_or, take, subst, refl, arith}
use Rattle.std.specs.List.{All}
use Rattle.std.proofs.lemmas.Str.{lead_after_ascii}
use Rattle.semver_texts.specs.Texts.{Text}
use Rattle.semver_texts.proofs.DottedParts.{IsOther, dot_splits, one_piece, others_more}
use Rattle.semver_texts.proofs.dotted.split_text_at_dot.Goals as goal

pub loop-at-preserved : goal.loop-at-preserved
loop-at-preserved c =
    others_more c.as_bytes-bytes.result.now c.loop-at.at c.loop-at-test.true c.if-bytes-at-eq46.false c.loop-at.invariant

pub range_from-requires : goal.range_from-requires
range_from-requires c =
    let t : Text = c.args.text.now in
    let inside = subst (λ (u : Text). c.loop-at.at < length u) c.as_bytes-bytes.ensures.value c.loop-at-test.true in
    let dot = subst (λ (u : Text). get_or u c.loop-at.at 0 ≡ 46) c.as_bytes-bytes.ensures.value c.if-bytes-at-eq46.true in
    let small : get_or t c.loop-at.at 0 < 128 = rw dot (omega arith) in
    λ after. (omega (arith, inside), lead_after_ascii t c.loop-at.at c.utf8.text small)

pub returns-then-bytes-at-eq46 : goal.returns-then-bytes-at-eq46
returns-then-bytes-at-eq46 c =
    let inside = subst (λ (u : Text). c.loop-at.at < length u) c.as_bytes-bytes.ensures.value c.loop-at-test.true in
    let dot = subst (λ (u : Text). get_or u c.loop-at.at 0 ≡ 46) c.as_bytes-bytes.ensures.value c.if-bytes-at-eq46.true in
    let others = subst (λ (u : Text). All IsOther (take c.loop-at.at u)) c.as_bytes-bytes.ensures.value c.loop-at.invariant in
    let none : c.loop-at.at - 0 ≡ c.loop-at.at = omega arith in
    rw (c.range.ensures.value, c.range_from.ensures.value, none) (dot_splits c.args.text.now c.loop-at.at inside dot others)

pub returns : goal.returns
returns c =
    let one = one_piece c.as_bytes-bytes.result.now c.loop-at.at (omega arith) c.loop-at.invariant in
    (rw c.as_bytes-bytes.ensures.value at one, refl)

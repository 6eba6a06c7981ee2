use Rattle.std.proofs.Common.{◌≡◌, ◌+◌, ◌-◌, ℕ, length, take, drop, sym, refl, ap, ◌∙◌, arith, length-drop}
use Rattle.std.proofs.Math.Seq.{take-length}
use Rattle.semver_texts.specs.Texts.{Text}
use Rattle.semver_texts.proofs.DottedParts.{dot_splits, one_piece, others_more}
use Rattle.semver_texts.proofs.dotted.split_at_dot.Goals as goal

pub loop-at-preserved : goal.loop-at-preserved
loop-at-preserved c =
    others_more c.args.bytes.now c.loop-at.at c.loop-at-test.true c.if-bytes-at-eq46.false c.loop-at.invariant

pub returns-then-bytes-at-eq46 : goal.returns-then-bytes-at-eq46
returns-then-bytes-at-eq46 c =
    let t : Text = c.args.bytes.now in
    let i : ℕ = c.loop-at.at in
    let after : Text = drop (i + 1) t in
    let left : take (length t - (i + 1)) after ≡ after = ap (λ n. take n after) (sym (length-drop (i + 1) t)) ∙ take-length after in
    rw left (dot_splits t i c.loop-at-test.true c.if-bytes-at-eq46.true c.loop-at.invariant)

pub returns : goal.returns
returns c = (one_piece c.args.bytes.now c.loop-at.at (omega arith) c.loop-at.invariant, refl)

use Rattle.std.proofs.Common.{subst, sym}
use Rattle.release_filter.specs.LineTexts.{end_byte}
use Rattle.release_filter.specs.Pieces.{LinesValue}
use Rattle.release_filter.proofs.Cuts.{NoEnd}
use Rattle.release_filter.proofs.Pieces.{end_in, held_begun}
use Rattle.release_filter.proofs.lines.Lines.begin_line.Goals as goal

pub invariant_of-self : goal.invariant_of-self
invariant_of-self c =
    let none = subst (λ (v : LinesValue). NoEnd (end_in v) c.args.bytes.now) (sym c.self.view_is) c.requires in
    held_begun (end_byte c.self.inside.fold.judge.ending) c.self.inside.begun.items c.args.bytes.now c.hold.new.begun.items c.hold.result
    c.self.invariant none c.hold.ensures.held c.hold.ensures.unchanged

pub invariant_of-self-2 : goal.invariant_of-self-2
invariant_of-self-2 c =
    let none = subst (λ (v : LinesValue). NoEnd (end_in v) c.args.bytes.now) (sym c.self.view_is) c.requires in
    held_begun (end_byte c.self.inside.fold.judge.ending) c.self.inside.begun.items c.args.bytes.now c.hold.new.begun.items c.hold.result
    c.self.invariant none c.hold.ensures.held c.hold.ensures.unchanged

use Rattle.std.proofs.Common.{◌≡◌, ℕ, List, Some, ◌++◌, take}
use Rattle.std.specs.Prelude.{flat_map}
use Rattle.std.specs.Fmt.{HasWritten, IsPlainFormatter}
use Rattle.semver_texts.proofs.printing.write_joined.Given as goal

abbrev pub invariant-loop-item : goal.invariant-loop-item
invariant-loop-item g l =
    (text : g.row.T.Denot → List ℕ) → ((x : g.row.T.Denot) → g.T.Display.output x ≡ Some (text x))
    → IsPlainFormatter l.initial.f → HasWritten g.W.Write.write_str_gives l.initial.f
    (flat_map (λ x. l.fn.separator ++ text x) (take l.item-index l.rest)) l.f

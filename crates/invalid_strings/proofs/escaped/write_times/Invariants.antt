use Rattle.std.specs.Fmt.{HasWrittenStyled, IsFlush}
use Rattle.std.specs.List.{repeat}
use Rattle.invalid_strings.proofs.escaped.write_times.Given as goal

abbrev pub invariant-loop : goal.invariant-loop
invariant-loop g l =
    IsFlush l.initial.f → HasWrittenStyled g.W.Write.write_str_gives l.initial.f (repeat l.counter l.mark) l.f

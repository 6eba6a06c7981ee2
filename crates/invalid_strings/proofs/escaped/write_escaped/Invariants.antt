use Rattle.std.specs.Fmt.{HasWrittenStyled, IsFlush}
use Rattle.std.specs.List.{flat_map}
use Rattle.invalid_strings.specs.Escaping.{escaped_character}
use Rattle.invalid_strings.proofs.escaped.write_escaped.Given as goal

abbrev pub invariant-loop-character : goal.invariant-loop-character
invariant-loop-character g l =
    IsFlush l.initial.f → HasWrittenStyled g.W.Write.write_str_gives l.initial.f (flat_map escaped_character l.yielded) l.f

use Rattle.std.proofs.Common.{◌≤◌, ◌-◌, string_capacity, take}
use Rattle.std.specs.Str.{IsCharBoundary}
use Rattle.invalid_strings.specs.Prefixes.{Begins}
use Rattle.invalid_strings.proofs.longest.likely_prefix.Given as goal

-- some text of the language begins with the prefix up to the offset `good`
abbrev pub invariant-loop-good : goal.invariant-loop-good
invariant-loop-good g l = record {
  below : l.good ≤ l.end;
  boundary : IsCharBoundary l.fn.text l.good;
  begins : Begins (g.L.Language.is_text l.fn.language) (take l.good l.fn.text);
  room : string_capacity l.fn.buffer ≤ string_capacity l.buffer;
}

abbrev pub decreases-loop-good : goal.decreases-loop-good
decreases-loop-good g l = l.end - l.good

use Rattle.std.proofs.Common.{◌≤◌, string_capacity, take}
use Rattle.std.specs.Str.{IsCharBoundary}
use Rattle.invalid_strings.specs.Prefixes.{Begins}
use Rattle.invalid_strings.proofs.longest.longest_prefix_in.Given as goal

-- some text of the language begins with the prefix up to the offset `good`
abbrev pub invariant-rounds : goal.invariant-rounds
invariant-rounds g l = record {
  boundary : IsCharBoundary l.fn.text l.good;
  begins : Begins (g.L.Language.is_text l.fn.language) (take l.good l.fn.text);
  room : string_capacity l.fn.buffer ≤ string_capacity l.buffer;
}

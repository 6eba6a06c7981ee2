use Rattle.std.proofs.Common.{◌≤◌, string_bytes, string_capacity}
use Rattle.invalid_strings.specs.Buffers.{HoldsAfter}
use Rattle.invalid_strings.proofs.Completing.{NoneYet}
use Rattle.invalid_strings.proofs.longest.is_prefix.Given as goal

-- the buffer begins with the prefix and hasn't lost capacity, and the prefix with any completion that
-- was tried so far isn't a text of the language
abbrev pub invariant-loop-completion : goal.invariant-loop-completion
invariant-loop-completion g l = record {
  held : HoldsAfter l.fn.prefix (string_bytes l.buffer);
  room : string_capacity l.fn.buffer ≤ string_capacity l.buffer;
  none : NoneYet (g.L.Language.is_text l.fn.language) (g.L.Language.completions l.fn.language) l.fn.prefix l.completion-index;
}

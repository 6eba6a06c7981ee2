use Rattle.std.proofs.Common.{◌≡◌, take}
use Rattle.invalid_strings.specs.VersionCompletions.{byte_completions}
use Rattle.invalid_strings.specs.VersionPrefixes.{IsVersionOf}
use Rattle.invalid_strings.proofs.Completing.{NoneYet}
use Rattle.invalid_strings.proofs.bytes.goes_on.Given as goal

-- the prefix in the buffer hasn't changed, and with any completion that was tried so far it isn't a
-- version
abbrev pub invariant-loop-completion : goal.invariant-loop-completion
invariant-loop-completion l = record {
  begins : take l.fn.end l.buffer ≡ take l.fn.end l.fn.buffer;
  none : NoneYet (IsVersionOf l.fn.len l.fn.grammar) byte_completions (take l.fn.end l.fn.buffer) l.completion-index;
}

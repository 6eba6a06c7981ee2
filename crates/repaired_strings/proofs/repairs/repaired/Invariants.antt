use Rattle.std.proofs.Common.{string_bytes}
use Rattle.repaired_strings.proofs.Chains.{HasLed}
use Rattle.repaired_strings.proofs.repairs.repaired.Given as goal

-- what the string is now came from it by repairs, one in each turn
abbrev pub invariant-loop : goal.invariant-loop
invariant-loop l = HasLed l.expected l.dialect l.counter l.text (string_bytes l.now)

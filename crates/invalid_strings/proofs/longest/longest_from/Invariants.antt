use Rattle.std.proofs.Common.{◌≤◌, ◌-◌, string_capacity}
use Rattle.invalid_strings.proofs.LongestPrefixes.{IsSearched}
use Rattle.invalid_strings.proofs.longest.longest_from.Given as goal

-- some text of the language begins with the prefix up to `good`, and none with that up to `bad`
abbrev pub invariant-loop-good : goal.invariant-loop-good
invariant-loop-good g l = record {
  searched : IsSearched (g.L.Language.is_text l.fn.language) l.fn.text l.good l.bad;
  room : string_capacity l.fn.buffer ≤ string_capacity l.buffer;
}

abbrev pub decreases-loop-good : goal.decreases-loop-good
decreases-loop-good g l = l.bad - l.good

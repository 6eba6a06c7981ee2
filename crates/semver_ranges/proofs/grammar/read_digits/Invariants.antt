use Rattle.std.proofs.Common.{◌≡◌, ◌+◌, ◌∷◌, ◌++◌, take, drop}
use Rattle.std.specs.Str.Parse.{digits_value}
use Rattle.std.specs.Char.{is_ascii_digit}
use Rattle.semver_ranges.specs.Steps.Reading.{front, back}
use Rattle.semver_ranges.specs.Steps.PartialViews.{IsValue}
use Rattle.semver_ranges.proofs.grammar.read_digits.Given as goal

abbrev pub invariant-loop-at : goal.invariant-loop-at
invariant-loop-at l =
    IsValue (digits_value 10 ((48 + l.first) ∷ take l.at l.text)) l.value
    × (front is_ascii_digit l.text ≡ take l.at l.text ++ front is_ascii_digit (drop l.at l.text))
    × (back is_ascii_digit l.text ≡ back is_ascii_digit (drop l.at l.text))

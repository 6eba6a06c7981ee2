use Rattle.std.proofs.Common.{◌≡◌, ◌<◌, ◌^◌, take}
use Rattle.std.specs.Str.Parse.{digits_value}
use Rattle.semver_texts.proofs.Numbers.{GoesOn}
use Rattle.semver_texts.proofs.decimals.digits.Given as goal

abbrev pub invariant-loop-at : goal.invariant-loop-at
invariant-loop-at l = (l.number < 2 ^ 64) × (l.number ≡ digits_value 10 (take l.at l.bytes)) × GoesOn l.bytes l.at

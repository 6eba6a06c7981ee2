-- The first invalid line, which is stored with the counts.
use Rattle.std.proofs.Common.{◌≡◌, Global, Option, Some, None, false, is_some, take, Vec, ℕ}
use Rattle.std.specs.Option.{option_map}
use Rattle.semver_texts.specs.Texts.{Text}
use Rattle.release_filter.specs.Counting.{first_of, invalid_value}
use Rattle.release_filter.specs.Verdicts.{reported}
use Rattle.release_filter.specs.declared.counts.InvalidLine.{InvalidLine}

pub kept_first : (first : Option InvalidLine) (number : ℕ) (front : Vec ℕ Global) (text : Text) → is_some first ≡ false
    → front.items ≡ take reported text
    → option_map invalid_value (Some (record { number = number; front = front }))
    ≡ first_of (option_map invalid_value first) (record { number = number; front = take reported text })
kept_first None number front text none is = λ i. Some (record { number = number; front = is i })
kept_first (Some line) number front text none is = cc

-- How many lines a text has, how many of them are kept, empty or invalid, and the first invalid
-- one.
use Rattle.std.specs.Prelude.{ℕ, ◌+◌, ◌-◌, ◌^◌, min, List, [], ◌∷◌, Option, Some, None}
use Rattle.std.specs.Option.{option_map}
use Rattle.semver_texts.specs.Texts.{Text}
use Rattle.release_filter.specs.Verdicts.{Verdict, kept, dropped, invalid, empty}
use Rattle.release_filter.specs.declared.counts.Counts.{Counts}
use Rattle.release_filter.specs.declared.counts.InvalidLine.{InvalidLine}

-- an invalid line, which is not empty and has no version: its number, and the beginning of its text
pub record InvalidValue : Type 0 where
  pub number : ℕ
  pub front : Text

pub record CountsValue : Type 0 where
  pub lines : ℕ
  pub kept : ℕ
  pub empty : ℕ
  pub invalid : ℕ
  pub first_invalid : Option InvalidValue

abbrev pub invalid_value : InvalidLine → InvalidValue
invalid_value line = record { number = line.number; front = line.front.items }

abbrev pub counts_value : Counts → CountsValue
counts_value c = record {
  lines = c.lines;
  kept = c.kept;
  empty = c.empty;
  invalid = c.invalid;
  first_invalid = option_map invalid_value c.first_invalid;
}

-- the counts before any line
abbrev pub no_counts : CountsValue
no_counts = record { lines = 0; kept = 0; empty = 0; invalid = 0; first_invalid = None }

-- one more, but at most 2^64 - 1
abbrev pub one_more : ℕ → ℕ
one_more n = min (n + 1) (2 ^ 64 - 1)

-- the first invalid line, if one more is found
abbrev pub first_of : Option InvalidValue → InvalidValue → Option InvalidValue
first_of None line = Some line
first_of (Some first) line = Some first

-- the counts after one more line
abbrev pub counted_as : Verdict → CountsValue → CountsValue
counted_as (kept version given) c =
    record c { lines = one_more c.lines; kept = one_more c.kept }
counted_as dropped c = record c { lines = one_more c.lines }
counted_as empty c = record c { lines = one_more c.lines; empty = one_more c.empty }
counted_as (invalid front) c = record c {
  lines = one_more c.lines;
  invalid = one_more c.invalid;
  first_invalid = first_of c.first_invalid
      (record { number = one_more c.lines; front = front });
}

-- the counts after some more lines
abbrev pub counted : CountsValue → List Verdict → CountsValue
counted c [] = c
counted c (v ∷ vs) = counted (counted_as v c) vs

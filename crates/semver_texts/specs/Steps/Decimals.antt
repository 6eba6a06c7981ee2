-- A means of proof: numbers, as their digits are read. `IsNumber` in `Texts` defines which texts
-- are numbers.
use Prim.Native.Char.{code}
use Rattle.std.specs.Prelude.{ℕ, ◌^◌, Bool, ◌&&◌, ◌||◌, not, ◌==◌, nat_lt, List}
use Rattle.std.specs.Prelude.{length, take, slice_index}
use Rattle.std.specs.List.{prefix_len}
use Rattle.std.specs.Char.{is_ascii_digit}
use Rattle.std.specs.Str.{all_ascii_digits}
use Rattle.std.specs.Str.Parse.{digits_value}

-- whether the run is the canonical decimal of a number below 2^64
abbrev pub is_number : List ℕ → Bool
is_number run =
    (all_ascii_digits run && (length run == 1 || not (slice_index run 0 == code "0")))
    && nat_lt (digits_value 10 run) (2 ^ 64)

-- the digits at the beginning of these bytes
abbrev pub digits_front : List ℕ → List ℕ
digits_front bytes = take (prefix_len is_ascii_digit bytes) bytes

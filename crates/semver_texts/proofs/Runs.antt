-- Runs of letters and digits.
use Rattle.std.proofs.Common.{◌≡◌, ℕ, ◌^◌, ◌<◌, true, false, decimal, refl, arith}
use Rattle.std.specs.Char.{is_ascii_alphanumeric, is_ascii_digit}
use Rattle.std.proofs.lemmas.Bool.Decides.{nat_tests}
use Rattle.std.proofs.lemmas.Fmt.{decimal_nonempty}
use Rattle.semver_texts.specs.Texts.{IsRun, is_part_byte, is_space}
use Rattle.semver_texts.proofs.Lists.{all_more}
use Rattle.semver_texts.proofs.Numbers.{canonical_decimal, all_digits}

pub run_is_no_space : (b : ℕ) → is_ascii_alphanumeric b ≡ true → is_space b ≡ false
run_is_no_space b h = grind (arith, nat_tests)

pub run_is_part : (b : ℕ) → is_ascii_alphanumeric b ≡ true → is_part_byte b ≡ true
run_is_part b h = rw h refl

digit_is_run : (b : ℕ) → is_ascii_digit b ≡ true → is_ascii_alphanumeric b ≡ true
digit_is_run b h = grind (arith, nat_tests)

pub decimal_is_run : (n : ℕ) → n < 2 ^ 64 → IsRun (decimal n)
decimal_is_run n small =
    (decimal_nonempty n small, all_more digit_is_run (decimal n) (all_digits (decimal n) (canonical_decimal n small).digits))

-- How long the numbers and identifiers of a range text may be in npm's dialect. The limits are
-- those of node-semver 7.6.2, which has the constants `MAX_LENGTH`, here `max_length`, and
-- `MAX_SAFE_BUILD_LENGTH`, here `max_build_length`. Its regular expressions repeat a digit at most
-- `MAX_LENGTH` times, and a letter, digit or hyphen at most `MAX_SAFE_BUILD_LENGTH` times.
use Rattle.std.specs.Prelude.{ℕ, ◌+◌, Bool, ◌&&◌, ◌==◌, if◌then◌else◌, nat_le, length}
use Rattle.std.specs.Char.{is_ascii_digit}
use Rattle.std.specs.List.{prefix_len}
use Rattle.semver_texts.specs.Texts.{Text}
use Rattle.semver_texts.specs.NpmLimits.{max_build_length, max_length}

-- whether a number isn't too long: it has a first digit, and at most `max_length` more
abbrev pub is_short_number : Text → Bool
is_short_number t = nat_le (length t) (max_length + 1)

-- the number of digits at the beginning of a text
abbrev pub leading_digits : Text → ℕ
leading_digits t = prefix_len is_ascii_digit t

-- whether an identifier of a pre-release isn't too long. If it consists of digits, it is limited as
-- a number. Otherwise it begins with at most `max_length` digits, and has at most
-- `max_build_length` characters after its first letter or hyphen
abbrev pub is_short_pre : Text → Bool
is_short_pre t =
    if leading_digits t == length t then is_short_number t
    else nat_le (leading_digits t) max_length
    && nat_le (length t) (leading_digits t + (max_build_length + 1))

-- whether an identifier of the build metadata isn't too long
abbrev pub is_short_build : Text → Bool
is_short_build t = nat_le (length t) max_build_length

-- whether the version of a comparator, with n characters, isn't too long
abbrev pub is_short_version : ℕ → Bool
is_short_version n = nat_le n max_length

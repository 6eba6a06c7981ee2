-- A means of proof: parts joined by dots, as they are read byte by byte. `VersionGrammar` defines
-- the identifiers of a version text, and `RangeTree` the parts of a range text.
use Rattle.std.specs.Prelude.{ℕ, Bool, true, false, ◌&&◌, ◌||◌, ◌==◌, if◌then◌else◌, [], ◌∷◌}
use Rattle.std.specs.Prelude.{Option, Some, None, take, drop}
use Rattle.std.specs.Char.{is_ascii_alphanumeric}
use Rattle.std.specs.Int.{is_in_range}
use Rattle.std.specs.List.{prefix_len}
use Rattle.semver_texts.specs.Texts.{Text, is_part_byte, is_dotted_byte}
use Rattle.semver_texts.specs.declared.dotted.Hyphens.{Hyphens}
use Rattle.semver_texts.specs.declared.dotted.Hyphens.TheVariants.{Any, BetweenRuns}

-- whether a byte belongs to a run: a letter or a digit, or also a hyphen if hyphens may be anywhere
abbrev pub is_run_byte : Hyphens → ℕ → Bool
is_run_byte Any b = is_part_byte b
is_run_byte BetweenRuns b = is_ascii_alphanumeric b

-- whether a text begins with runs that are separated by single dots and hyphens, up to the first
-- byte that can't be among them. A hyphen separates runs only if it can't belong to one. `in_run`
-- says whether a run is right before the text
abbrev pub runs_stand : (ℕ → Bool) → Bool → Text → Bool
runs_stand run in_run [] = in_run
runs_stand run in_run (b ∷ bs) =
    if run b then runs_stand run true bs
    else (if b == 45 || b == 46 then in_run && runs_stand run false bs else in_run)

-- the parts at the beginning of a text, and what follows them
abbrev pub parts_ahead : Hyphens → Text → Option (Text × Text)
parts_ahead hyphens t =
    if runs_stand (is_run_byte hyphens) false t then Some
    (take (prefix_len is_dotted_byte t) t, drop (prefix_len is_dotted_byte t) t) else None

-- the parts after their mark, and what follows them; no parts if the text doesn't begin with the
-- mark
abbrev pub marked_part : Hyphens → ℕ → Text → Option (Text × Text)
marked_part hyphens mark [] = Some ([], [])
marked_part hyphens mark (b ∷ t) =
    if b == mark then parts_ahead hyphens t else Some ([], b ∷ t)

-- whether the first byte is a digit, and not 0
abbrev pub begins_above_zero : Text → Bool
begins_above_zero [] = false
begins_above_zero (b ∷ t) = is_in_range 49 57 b

-- whether the part at the beginning of a text is empty or begins with a zero
abbrev pub is_odd : Text → Bool
is_odd [] = true
is_odd (b ∷ t) = b == 46 || b == 48

-- whether some part after a dot is empty or begins with a zero
abbrev pub odd_after : Text → Bool
odd_after [] = false
odd_after (b ∷ t) = (b == 46 && is_odd t) || odd_after t

-- whether some part is empty or begins with a zero
abbrev pub begins_oddly : Text → Bool
begins_oddly t = is_odd t || odd_after t

use Rattle.std.proofs.Common.{◌≡◌, ◌∙◌, ◌<◌, ℕ, List, [], ◌∷◌, All, true, ap, refl, arith}
use Rattle.std.specs.List.{list_all}
use Rattle.std.specs.Str.{IsAscii, chars}
use Rattle.std.proofs.lemmas.List.Elements.{All-head, All-tail}
use Rattle.std.proofs.lemmas.Str.{chars-IsAscii}
use Rattle.std.proofs.lemmas.Str.Ascii.{All-from_ascii}
use Rattle.tool_ranges.specs.NpmGrammar.{may_stand}
use Rattle.tool_ranges.proofs.npm.may_stand.Goals as goal
use Rattle.std.proofs.lemmas.Grind.{common_steps}

each_stands : (b : ℕ) → b < 128 → may_stand b ≡ true
each_stands b small = grind arith

all_stand : (bs : List ℕ) → All (λ b. b < 128) bs → list_all may_stand bs ≡ true
all_stand [] all = refl
all_stand (b ∷ bs) all =
    rw (each_stands b (All-head (λ b. b < 128) b bs all), all_stand bs (All-tail (λ b. b < 128) b bs all)) refl

ascii_stands : (bs : List ℕ) → IsAscii bs → list_all may_stand (chars bs) ≡ true
ascii_stands bs ascii = ap (list_all may_stand) (chars-IsAscii bs ascii) ∙ all_stand bs (All-from_ascii bs ascii)

pub returns-then-is_ascii : goal.returns-then-is_ascii
returns-then-is_ascii c = grind (arith, common_steps, ascii_stands)

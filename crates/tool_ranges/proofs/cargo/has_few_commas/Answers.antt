use Rattle.std.proofs.Common.{◌≡◌, ◌<◌, ◌≤◌, ℕ, true, arith, length, ◌∙◌, sym}
use Rattle.std.proofs.lemmas.Bool.Decides.{nat_tests}
use Rattle.std.specs.Prelude.{nat_lt}
use Rattle.tool_ranges.specs.Steps.TextEvents.{commas}
use Rattle.tool_ranges.proofs.Commas.{commas_within}
use Rattle.tool_ranges.proofs.cargo.has_few_commas.Goals as goal

below : (m n : ℕ) → m ≤ n → nat_lt n 32 ≡ true → nat_lt m 32 ≡ true
below m n less e = grind (arith, nat_tests)

is_below : (n : ℕ) → n < 32 → nat_lt n 32 ≡ true
is_below n less = grind (arith, nat_tests)

pub returns-then-text-lt-MOST_COMPARATORS : goal.returns-then-text-lt-MOST_COMPARATORS
returns-then-text-lt-MOST_COMPARATORS c =
    let short = is_below _ c.if-text-lt-MOST_COMPARATORS.true in
    short ∙ sym (below (commas c.args.text.now) (length c.args.text.now) (commas_within c.args.text.now) short)

use Rattle.std.proofs.Common.{arith, rules}
use Rattle.release_filter.proofs.Prefixes.{Strips, after}
use Rattle.release_filter.proofs.line_texts.text_after.Goals as goal
use Rattle.std.proofs.lemmas.Grind.{common_steps}

pub returns : goal.returns
returns c =
    let bytes : Strips c.args.prefix.now c.args.text.now c.strip_prefix.result =
    search rules in
    after c.args.prefix.now c.args.text.now c.strip_prefix.result bytes

pub returns-then-is_empty : goal.returns-then-is_empty
returns-then-is_empty c = grind (arith, common_steps)

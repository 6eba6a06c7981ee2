use Rattle.std.proofs.Common.{◌≡◌, ap, arith, length, length-take, rules, take}
use Rattle.invalid_strings.proofs.longest.text_prefix.Goals as goal

pub returns-in-Ok-from_utf8-clause-longest : goal.returns-in-Ok-from_utf8-clause-longest
returns-in-Ok-from_utf8-clause-longest c n longer within =
    let e = c.in-Err.ensures.cases.1 in
    let is : c.in-Ok-from_utf8.text.now ≡ take c.valid_up_to.result c.args.bytes.now = search rules in
    e.longest n (omega (arith, ap length is, length-take c.valid_up_to.result c.args.bytes.now, e.short))

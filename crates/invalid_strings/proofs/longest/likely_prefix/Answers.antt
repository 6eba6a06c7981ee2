use Rattle.std.proofs.Common.{◌<◌, arith}
use Rattle.invalid_strings.proofs.LongestPrefixes.{taken_begins}
use Rattle.invalid_strings.proofs.longest.likely_prefix.Goals as goal

pub loop-good-preserved-then-is_likely : goal.loop-good-preserved-then-is_likely
loop-good-preserved-then-is_likely g c =
    let l = g.L.Language in
    let e = c.between-middle.ensures in
    let after : c.loop-good.good < c.between-middle.result = omega arith in
    record {
      below = omega (arith, e.before after);
      boundary = e.boundary after;
      begins = taken_begins (l.is_text c.args.language.now) (l.completions c.args.language.now) c.args.text.now c.requires.completions
          c.between-middle.result c.range.result.now c.range.ensures.value (c.is_likely.ensures.found c.if-is_likely.true);
      room = omega arith;
    }
